use Rattle.std.proofs.Common.{◌≡◌, ◌-◌}
use Rattle.cells.specs.Views.{view_rows}
use Rattle.model.specs.Machine.{absorbed_from}
use Rattle.groups.specs.Plans.{setup_of}
use Rattle.groups.specs.Held.{held_of}
use Rattle.groups.proofs.held.HeldGroups.absorb.Given as goal

-- The sets that are left make of the groups what all sets make of those at the start.
abbrev pub invariant-loop-set : goal.invariant-loop-set
invariant-loop-set g l =
    let u = setup_of g.A.GroupsAccumulator.aggregation g.G.GroupValues.admitted l.plan in
    let rows = view_rows l.batch in
    absorbed_from u (held_of l.self) rows l.set (l.set-end - l.set)
    ≡ absorbed_from u (held_of l.initial.self) rows 0 l.set-end
