-- The keys of a small table, by the slots that it holds.
use Rattle.std.specs.Prelude.{◌≡◌, ℕ, ◌<◌, ◌≤◌, [], ◌∷◌, ◌++◌, map, length, get_or, drop, set, Some, None, refl}
use Rattle.arrayvec.specs.ArrayVec.{array_vec_len}
use Rattle.std.proofs.Common.{sym, ap, ◌∙◌, subst, arith}
use Rattle.std.proofs.lemmas.List.{length-map, map_push}
use Rattle.cells.specs.Emits.{left, dropped}
use Rattle.cells.specs.EmitsLemmas.{left-drop, map-left}
use Rattle.cells.specs.declared.emit_to.EmitTo.{EmitTo}
use Rattle.group_values.specs.Slots.{slot_key, Below, SlotIndex}
use Rattle.group_values.specs.Smalls.{small_keys}
use Rattle.group_values.specs.Tables.{Distinct}
use Rattle.group_values.specs.declared.small_table.GroupValuesSmall.{GroupValuesSmall}
use Rattle.group_values.specs.SlotsLemmas.{below_drop, index_push, slots_bounded, slots_distinct, slots_room}
use Rattle.group_values.specs.TablesLemmas.{distinct-left}

module _ (t : GroupValuesSmall) where
  pub small_index : SlotIndex t.slots.items t.places
  small_index = t.indexed

  slots_length : length t.slots.items ≡ array_vec_len t.slots
  slots_length = refl

  pub small_length : length (small_keys t) ≡ array_vec_len t.slots
  small_length = length-map t.slots.items slot_key ∙ slots_length

  pub within : array_vec_len t.slots ≤ 65
  within = slots_bounded t.slots.items t.places small_index

  pub small_bounded : length (small_keys t) ≤ 512
  small_bounded = omega (arith, small_length, within)

  -- the slots after an emission
  module _ (e : EmitTo) (count : ℕ) (drops : count ≡ dropped e (length t.slots.items)) where
    front : drop count t.slots.items ≡ left e t.slots.items
    front = ap (λ (n : ℕ). drop n t.slots.items) drops ∙ sym (left-drop e t.slots.items)

    pub small_emitted : map slot_key (drop count t.slots.items) ≡ left e (small_keys t)
    small_emitted = ap (map slot_key) front ∙ map-left slot_key e t.slots.items

    pub emitted_distinct : Distinct (map slot_key (drop count t.slots.items))
    emitted_distinct = subst Distinct (sym small_emitted) (distinct-left e (small_keys t) (slots_distinct t.slots.items t.places small_index))

    pub emitted_below : Below (drop count t.slots.items)
    emitted_below = below_drop t.slots.items count small_index.0

  -- a slot that has no place yet
  module _ (s : ℕ) (below : s < 65) (free : get_or t.places s None ≡ None) where
    pub small_room : array_vec_len t.slots < 65
    small_room = slots_room t.slots.items t.places small_index s below free

    pub small_keys_push : map slot_key (t.slots.items ++ s ∷ []) ≡ small_keys t ++ slot_key s ∷ []
    small_keys_push = map_push slot_key t.slots.items s

    pub small_index_push : SlotIndex (t.slots.items ++ s ∷ []) (set t.places s (Some (length t.slots.items)))
    small_index_push = index_push t.slots.items t.places s small_index below free
