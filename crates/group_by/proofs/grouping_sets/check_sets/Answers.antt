use Rattle.std.proofs.Common.{length, vec_items, sym, ◌∙◌, arith, rules}
use Rattle.std.proofs.lemmas.List.FromFn.{length-map-range_with_len}
use Rattle.std.proofs.lemmas.List.{at_drop_all, length-map}
use Rattle.group_by.specs.Sets.{sets_of, for_each, fault_at, first_some}
use Rattle.group_by.proofs.Faulty.{fault_is, at_set}
use Rattle.group_by.proofs.grouping_sets.check_sets.Goals as goal

pub returns-in_err-check_id : goal.returns-in_err-check_id
returns-in_err-check_id c =
    let groups = c.args.groups.now in
    let i = c.loop-set.set in
    let e = fault_is groups i c.duplicate_ordinal.result c.index-groups-set.result c.deref.result.now c.loop-set-test.true c.index-groups-set.is c.deref.ensures.value c.duplicate_ordinal.ensures c.max_duplicate_ordinal-greatest.result c.max_duplicate_ordinal-greatest.ensures in
    let first = at_set (sets_of groups) i _ (omega (arith, length-map groups vec_items)) c.loop-set.invariant (c.in_err-check_id.ensures ∙ e) in
    search (rules, first)

pub loop-set-preserved : goal.loop-set-preserved
loop-set-preserved c =
    let groups = c.args.groups.now in
    let i = c.loop-set.set in
    let e = fault_is groups i c.duplicate_ordinal.result c.index-groups-set.result c.deref.result.now c.loop-set-test.true c.index-groups-set.is c.deref.ensures.value c.duplicate_ordinal.ensures c.max_duplicate_ordinal-greatest.result c.max_duplicate_ordinal-greatest.ensures in
    at_set (sets_of groups) i _ (omega (arith, length-map groups vec_items)) c.loop-set.invariant (c.in_ok-check_id.ensures ∙ e)

pub returns : goal.returns
returns c =
    let sets = sets_of c.args.groups.now in
    sym (at_drop_all first_some (for_each sets (fault_at sets)) c.loop-set.set (omega (arith, length-map-range_with_len (fault_at sets) 0 (length sets), length-map c.args.groups.now vec_items)))
    ∙ c.loop-set.invariant
