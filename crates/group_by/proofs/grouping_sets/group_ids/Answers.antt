use Rattle.std.proofs.Common.{◌≡◌, ℕ, map, length, vec_items, sym, ap, ◌∙◌, arith, w64, SFits, rules}
use Rattle.std.specs.List.{range_with_len}
use Rattle.std.proofs.lemmas.List.{length-map}
use Rattle.std.proofs.lemmas.Int.{to_z-of_z}
use Rattle.group_by.specs.Sets.{sets_of, id_at}
use Rattle.group_by.proofs.Faulty.{id_small, ids_more, ids-distinct}
use Rattle.group_by.proofs.grouping_sets.group_ids.Goals as goal

pub full_id-id-requires : goal.full_id-id-requires
full_id-id-requires c =
    id_small c.args.groups.now c.loop-set.set c.duplicate_ordinal.result c.index-groups-set.result c.deref.result.now c.loop-set-test.true c.index-groups-set.is c.deref.ensures.value c.duplicate_ordinal.ensures
    (omega arith) (sym c.in_ok-check_sets.ensures)

pub loop-set-preserved : goal.loop-set-preserved
loop-set-preserved c =
    let f : SFits w64 c.cast_signed.result = search rules in (
      ids_more c.args.groups.now c.loop-set.set c.duplicate_ordinal.result c.index-groups-set.result c.deref.result.now c.loop-set-test.true c.index-groups-set.is c.deref.ensures.value c.duplicate_ordinal.ensures
          (vec_items c.loop-set.ids) (vec_items c.push_reserved.new.self) c.full_id-id.result _ c.loop-set.invariant.0 c.full_id-id.ensures (to_z-of_z w64 c.cast_signed.result f ∙ c.cast_signed.ensures) c.push_reserved.ensures.items,
      omega arith,
      omega arith,
    )

pub returns : goal.returns
returns c =
    let groups = c.args.groups.now in
    let n = length-map groups vec_items in
    let all : c.loop-set.set ≡ length (sets_of groups) = omega arith in (
      sym c.in_ok-check_sets.ensures,
      c.loop-set.invariant.0 ∙ ap (λ (k : ℕ). map (id_at (sets_of groups)) (range_with_len 0 k)) all,
      ids-distinct (sets_of groups) (omega arith) (sym c.in_ok-check_sets.ensures),
    )
