use Rattle.std.proofs.Common.{◌≡◌, true}
use Rattle.cells.specs.Views.{view_rows}
use Rattle.output.specs.Waits.{waiting_rows, stored}
use Rattle.model.specs.Machine.{converted}
use Rattle.groups.specs.Plans.{setup_of}
use Rattle.groups.specs.Settings.{is_partial}
use Rattle.groups.specs.Held.{Narrow}
use Rattle.groups.proofs.Emitting.{Put}
use Rattle.groups.proofs.held.HeldGroups.convert_rows.Given as goal

abbrev pub invariant-loop-row : goal.invariant-loop-row
invariant-loop-row g l =
    let u = setup_of g.A.GroupsAccumulator.aggregation g.G.GroupValues.admitted l.plan in
    Narrow g.A.GroupsAccumulator.aggregation → is_partial l.plan.settings.mode ≡ true
    → Put (converted u (view_rows l.batch)) l.row (waiting_rows l.waiting) (stored l.waiting)
