use Rattle.output.specs.Waits.{waiting_rows, stored}
use Rattle.model.specs.Machine.{held_pairs, out_rows}
use Rattle.groups.specs.Plans.{setup_of}
use Rattle.groups.specs.Held.{held_of, Narrow}
use Rattle.groups.proofs.Emitting.{Put}
use Rattle.groups.proofs.held.HeldGroups.write_rows.Given as goal

abbrev pub invariant-loop-group : goal.invariant-loop-group
invariant-loop-group g l =
    let u = setup_of g.A.GroupsAccumulator.aggregation g.G.GroupValues.admitted l.plan in
    Narrow g.A.GroupsAccumulator.aggregation
    → Put (out_rows u (held_pairs u (held_of l.self))) l.group (waiting_rows l.waiting) (stored l.waiting)
