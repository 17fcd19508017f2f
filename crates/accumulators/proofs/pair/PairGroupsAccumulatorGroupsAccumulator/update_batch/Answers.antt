-- A batch that is fed to both is fed to the pair.
use Rattle.cells.specs.Views.{view_rows}
use Rattle.accumulators.specs.SideBySide.{side_by_side-updated}
use Rattle.accumulators.proofs.pair.PairGroupsAccumulatorGroupsAccumulator.update_batch.Goals as goal

pub returns : goal.returns
returns g c =
    let a = g.P.GroupsAccumulator.aggregation in
    let b = g.Q.GroupsAccumulator.aggregation in
    side_by_side-updated a b c.args.exprs.now (view_rows c.args.batch.now) _ _ c.args.places.now c.args.total_num_groups _ _ _ _ c.split_exprs.ensures.front c.split_exprs.ensures.back c.update_batch.ensures c.update_batch-2.ensures
