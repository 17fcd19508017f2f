use Rattle.std.proofs.Common.{◌≡◌, ℕ, max, map, length, vec_items, fold, ap, ◌∙◌, arith}
use Rattle.std.specs.List.{range_with_len}
use Rattle.std.proofs.lemmas.List.{length-map}
use Rattle.group_by.specs.Sets.{sets_of, ordinal_of}
use Rattle.group_by.proofs.Ordinals.{greatest_more}
use Rattle.group_by.proofs.grouping_sets.max_duplicate_ordinal.Goals as goal

pub loop-set-preserved : goal.loop-set-preserved
loop-set-preserved c =
    greatest_more (ordinal_of (sets_of c.args.groups.now)) c.loop-set.set c.loop-set.greatest c.duplicate_ordinal.result _ c.loop-set.invariant c.duplicate_ordinal.ensures c.max-greatest.ensures

pub returns : goal.returns
returns c =
    let groups = c.args.groups.now in
    let all : c.loop-set.set ≡ length (sets_of groups) = omega (arith, length-map groups vec_items) in
    c.loop-set.invariant
    ∙ ap (λ (n : ℕ). fold max 0 (map (ordinal_of (sets_of groups)) (range_with_len 0 n))) all
