use Rattle.std.proofs.Common.{sym, ap, ◌∙◌, arith}
use Rattle.cells.specs.Views.{view_rows}
use Rattle.groups.specs.Plans.{setup_of}
use Rattle.groups.proofs.Scanning.{row_starts, set_passes, set_fails, rows_end}
use Rattle.groups.proofs.held.HeldGroups.first_refused.Goals as goal

pub loop-set-init : goal.loop-set-init
loop-set-init g c =
    let u = setup_of g.A.GroupsAccumulator.aggregation g.G.GroupValues.admitted c.args.plan.now in
    let rows = view_rows c.args.batch.now in
    c.loop-row.invariant ∙ row_starts u rows c.num_sets-set-end.result c.loop-row.row c.num_sets-set-end.ensures (omega (arith, c.loop-row-test.true, c.num_rows-row-end.ensures.value))

pub loop-set-preserved : goal.loop-set-preserved
loop-set-preserved g c =
    let u = setup_of g.A.GroupsAccumulator.aggregation g.G.GroupValues.admitted c.args.plan.now in
    let rows = view_rows c.args.batch.now in
    c.loop-set.invariant
    ∙ set_passes u rows c.num_sets-set-end.result c.loop-row.row c.loop-set.set c.loop-set-test.true
    (sym (c.admits.ensures ∙ ap g.G.GroupValues.admitted c.row_key.ensures) ∙ c.if-not-admits.false)

pub returns-then-not-admits : goal.returns-then-not-admits
returns-then-not-admits g c =
    let u = setup_of g.A.GroupsAccumulator.aggregation g.G.GroupValues.admitted c.args.plan.now in
    let rows = view_rows c.args.batch.now in
    sym
    (c.loop-set.invariant
    ∙ set_fails u rows c.num_sets-set-end.result c.loop-row.row c.loop-set.set c.loop-set-test.true
    (sym (c.admits.ensures ∙ ap g.G.GroupValues.admitted c.row_key.ensures) ∙ c.if-not-admits.true))

pub returns-after-loop-row : goal.returns-after-loop-row
returns-after-loop-row g c =
    let u = setup_of g.A.GroupsAccumulator.aggregation g.G.GroupValues.admitted c.args.plan.now in
    let rows = view_rows c.args.batch.now in
    sym (c.loop-row.invariant ∙ rows_end u rows c.loop-row.row (omega (arith, c.loop-row-test.false, c.num_rows-row-end.ensures.value)))
