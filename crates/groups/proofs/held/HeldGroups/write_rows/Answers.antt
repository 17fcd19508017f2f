use Rattle.std.proofs.Common.{◌≡◌, ◌<◌, [], length, ap, ◌∙◌, arith}
use Rattle.cells.specs.Emits.{dropped}
use Rattle.output.specs.Waits.{waiting_rows}
use Rattle.model.specs.Machine.{held_pairs, out_rows}
use Rattle.groups.specs.Plans.{setup_of}
use Rattle.groups.specs.Held.{held_of}
use Rattle.groups.proofs.Emitting.{put_more, all_length, row_at, emission-is, below_held}
use Rattle.groups.proofs.held.HeldGroups.write_rows.Goals as goal

pub loop-group-init : goal.loop-group-init
loop-group-init g c narrow = record { rows = c.clear.ensures.waiting; taken = c.clear.ensures.stored }

pub loop-group-preserved : goal.loop-group-preserved
loop-group-preserved g c narrow =
    let u = setup_of g.A.GroupsAccumulator.aggregation g.G.GroupValues.admitted c.args.plan.now in
    let held = held_of c.args.self.now in
    let counted = c.count-group-end.ensures ∙ ap (dropped c.args.emit_to) c.len.ensures in
    let i = c.loop-group.group in
    let l : i < length held.keys = below_held c.args.emit_to (length held.keys) i c.count-group-end.result counted c.loop-group-test.true in
    put_more (out_rows u (held_pairs u held)) i _ _ _ _ _ [] (c.loop-group.invariant narrow) (omega (arith, l, all_length u held))
    (omega (arith, l, g.met.G.GroupValues.bounded c.args.self.now.group_values))
    (row_at u held i _ l (c.row.ensures narrow)) c.push.ensures.waiting c.push.ensures.stored

pub returns : goal.returns
returns g c narrow =
    let u = setup_of g.A.GroupsAccumulator.aggregation g.G.GroupValues.admitted c.args.plan.now in
    let held = held_of c.args.self.now in
    let counted = c.count-group-end.ensures ∙ ap (dropped c.args.emit_to) c.len.ensures in
    let same : c.loop-group.group ≡ c.count-group-end.result = omega (arith, c.loop-group-test.false, c.loop-group.auto.group-end) in
    emission-is u held c.args.emit_to c.loop-group.group (waiting_rows c.loop-group.waiting) (c.loop-group.invariant narrow).rows (same ∙ counted)
