-- Both let the same groups go.
use Rattle.accumulators.specs.SideBySide.{side_by_side-left}
use Rattle.accumulators.proofs.pair.PairGroupsAccumulatorGroupsAccumulator.emit.Goals as goal

pub returns : goal.returns
returns g c = side_by_side-left _ _ c.args.emit_to _ _ _ _ c.emit.ensures c.emit-2.ensures
