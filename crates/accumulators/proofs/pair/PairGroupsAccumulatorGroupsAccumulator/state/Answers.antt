-- What the first writes stands before what the second writes.
use Rattle.std.proofs.Common.{rules}
use Rattle.accumulators.specs.SideBySide.{get_or-side_by_side}
use Rattle.accumulators.proofs.Overlays.{overlaid-cut}
use Rattle.accumulators.proofs.pair.PairGroupsAccumulatorGroupsAccumulator.state.Goals as goal

pub returns : goal.returns
returns g c =
    let p = g.P.GroupsAccumulator in
    let q = g.Q.GroupsAccumulator in
    let self = c.args.self.now in
    let parts = c.split_at_mut-left.ensures in
    let at = get_or-side_by_side p.aggregation.neutral q.aggregation.neutral (p.states self.first) (q.states self.second) c.args.group in
    rw (at, c.state.ensures, c.state-2.ensures)
    (overlaid-cut _ _ c.args.out.now _ _ _ _ _ (g.met.P.GroupsAccumulator.lawful.shows_length _) c.state_cells.ensures c.min.ensures (search rules) parts.front parts.back)
