use Rattle.std.proofs.Common.{◌≡◌}
use Rattle.cells.specs.Views.{view_rows}
use Rattle.model.specs.Steps.{key_out}
use Rattle.groups.specs.Plans.{setup_of}
use Rattle.groups.proofs.Scanning.{left-rows, left-sets}
use Rattle.groups.proofs.held.HeldGroups.first_refused.Given as goal

abbrev pub invariant-loop-row : goal.invariant-loop-row
invariant-loop-row g l =
    let u = setup_of g.A.GroupsAccumulator.aggregation g.G.GroupValues.admitted l.plan in
    key_out u 0 (view_rows l.batch) ≡ left-rows u (view_rows l.batch) l.row

abbrev pub invariant-loop-set : goal.invariant-loop-set
invariant-loop-set g l =
    let u = setup_of g.A.GroupsAccumulator.aggregation g.G.GroupValues.admitted l.plan in
    key_out u 0 (view_rows l.batch) ≡ left-sets u (view_rows l.batch) l.set-end l.row l.set
