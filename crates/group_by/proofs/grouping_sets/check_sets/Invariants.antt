use Rattle.group_by.specs.Sets.{sets_of}
use Rattle.group_by.proofs.Faulty.{Passed}
use Rattle.group_by.proofs.grouping_sets.check_sets.Given as goal

-- The sets so far have ids.
abbrev pub invariant-loop-set : goal.invariant-loop-set
invariant-loop-set l = Passed (sets_of l.groups) l.set
