use Rattle.std.proofs.Common.{◌≡◌, ◌≤◌, map, length, vec_items, vec_len, vec_capacity}
use Rattle.std.specs.List.{range_with_len}
use Rattle.group_by.specs.Sets.{sets_of, id_at}
use Rattle.group_by.proofs.grouping_sets.group_ids.Given as goal

-- The ids of the sets so far, with room for the rest.
abbrev pub invariant-loop-set : goal.invariant-loop-set
invariant-loop-set l =
    (vec_items l.ids ≡ map (id_at (sets_of l.groups)) (range_with_len 0 l.set))
    × (vec_len l.ids ≡ l.set)
    × (length l.groups ≤ vec_capacity l.ids)
