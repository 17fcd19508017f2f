use Rattle.std.proofs.Common.{take}
use Rattle.group_by.specs.Counts.{Distinct}
use Rattle.group_by.proofs.count.distinct_positions.Given as goal

-- The positions so far are distinct.
abbrev pub invariant-loop-place : goal.invariant-loop-place
invariant-loop-place l = Distinct (take l.place l.positions)
