-- What the first writes stands before what the second writes, each of its own part of the columns.
use Rattle.std.proofs.Common.{rules}
use Rattle.accumulators.proofs.Overlays.{overlaid-cut}
use Rattle.accumulators.proofs.pair.PairGroupsAccumulatorGroupsAccumulator.convert_to_state.Goals as goal

pub returns : goal.returns
returns g c =
    let parts = c.split_at_mut-left.ensures in
    let named = c.split_exprs.ensures in
    rw (c.convert_to_state.ensures, c.convert_to_state-2.ensures, named.front, named.back)
    (overlaid-cut _ _ c.args.out.now _ _ _ _ _ (g.met.P.GroupsAccumulator.lawful.shows_length _) c.state_cells.ensures c.min.ensures (search rules) parts.front parts.back)
