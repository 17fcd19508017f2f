-- A key without a slot stays out, a slot with a place is found, and one without is added.
use Rattle.std.proofs.Common.{ℕ, ◌<◌, List, [], ◌∷◌, ◌++◌, map, length, set, Some, sym, ap, ◌∙◌, subst, arith}
use Rattle.group_values.specs.Slots.{SlotIndex, slot_key, small_key}
use Rattle.group_values.specs.Smalls.{small_keys}
use Rattle.group_values.specs.Tables.{Absent}
use Rattle.group_values.specs.SlotsLemmas.{slot_small, slots_distinct, slots_admitted, slots_found, slots_absent}
use Rattle.group_values.specs.SmallsLemmas.{small_length, small_room, small_keys_push, small_index_push}
use Rattle.group_values.specs.TablesLemmas.{absent_out, interns_found, interns_new, interns_out}
use Rattle.group_values.proofs.small.GroupValuesSmallGroupValues.intern.Goals as goal

pub returns-in_err-slot : goal.returns-in_err-slot
returns-in_err-slot c =
    let t = c.args.self.now in
    let out = c.in_err-slot.ensures in
    let absent = absent_out small_key (small_keys t) c.args.key.now (slots_admitted t.slots.items t.places t.indexed) out in
    let i = interns_out small_key (small_keys t) c.args.key.now absent out in
    record { answer = c.from_residual.ensures ∙ sym i.0; after = sym i.1 }

pub returns-in-Some : goal.returns-in-Some
returns-in-Some c =
    let t = c.args.self.now in
    let found = slots_found t.slots.items t.places t.indexed c.in_ok-slot.slot c.in-Some.place c.in-Some.is in
    let apart = slots_distinct t.slots.items t.places t.indexed in
    let i = interns_found small_key (small_keys t) c.args.key.now c.in-Some.place apart found.0 (found.1 ∙ sym c.in_ok-slot.ensures.1) in
    record { answer = ap Some c.from.ensures ∙ sym i.0; after = sym i.1 }

pub push-requires : goal.push-requires
push-requires c =
    let t = c.args.self.now in
    (omega arith, small_room t c.in_ok-slot.slot c.in_ok-slot.ensures.0 c.in_default.is)

pub invariant_of-self : goal.invariant_of-self
invariant_of-self c =
    let t = c.args.self.now in
    let s = c.in_ok-slot.slot in
    let places = λ (place : ℕ). set t.places s (Some place) in
    let added = small_index_push t s c.in_ok-slot.ensures.0 c.in_default.is in
    let at = subst (λ (place : ℕ). SlotIndex (t.slots.items ++ s ∷ []) (places place)) (sym c.len-place.ensures.value) added in
    record { indexed = subst (λ (slots : List ℕ). SlotIndex slots (places c.len-place.result)) (sym c.push.ensures.items) at }

pub returns : goal.returns
returns c =
    let t = c.args.self.now in
    let s = c.in_ok-slot.slot in
    let same = c.in_ok-slot.ensures.1 in
    let absent = subst (Absent (small_keys t)) (sym same) (slots_absent t.slots.items t.places t.indexed s c.in_default.is) in
    let room = small_room t s c.in_ok-slot.ensures.0 c.in_default.is in
    let few : length (small_keys t) < 512 = omega (arith, small_length t, room) in
    let i = interns_new small_key (small_keys t) c.args.key.now absent (ap small_key same ∙ slot_small s c.in_ok-slot.ensures.0) few in
    record {
      answer = ap Some (c.len-place.ensures.value ∙ sym (small_length t)) ∙ sym i.0;
      after = ap (map slot_key) c.push.ensures.items
          ∙ small_keys_push t s c.in_ok-slot.ensures.0 c.in_default.is
          ∙ ap (λ k. small_keys t ++ k ∷ []) (sym same)
          ∙ sym i.1;
    }
