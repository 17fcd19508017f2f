use Rattle.std.proofs.Common.{◌≡◌, max, map, fold}
use Rattle.std.specs.List.{range_with_len}
use Rattle.group_by.specs.Sets.{sets_of, ordinal_of}
use Rattle.group_by.proofs.grouping_sets.max_duplicate_ordinal.Given as goal

-- The greatest ordinal so far.
abbrev pub invariant-loop-set : goal.invariant-loop-set
invariant-loop-set l = l.greatest ≡ fold max 0 (map (ordinal_of (sets_of l.groups)) (range_with_len 0 l.set))
