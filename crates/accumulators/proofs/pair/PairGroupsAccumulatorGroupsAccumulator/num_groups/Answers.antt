-- The pair holds as many groups as the one that holds more.
use Rattle.std.proofs.Common.{arith}
use Rattle.accumulators.specs.SideBySide.{length-side_by_side}
use Rattle.accumulators.proofs.pair.PairGroupsAccumulatorGroupsAccumulator.num_groups.Goals as goal

pub returns : goal.returns
returns g c =
    let p = g.P.GroupsAccumulator in
    let q = g.Q.GroupsAccumulator in
    let len = length-side_by_side p.aggregation.neutral q.aggregation.neutral (p.states c.args.self.now.first) (q.states c.args.self.now.second) in
    omega (arith, len)
