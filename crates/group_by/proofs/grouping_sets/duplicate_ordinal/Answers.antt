use Rattle.std.proofs.Common.{arith}
use Rattle.group_by.proofs.Ordinals.{ordinal_is}
use Rattle.group_by.proofs.grouping_sets.duplicate_ordinal.Goals as goal

pub returns : goal.returns
returns c =
    ordinal_is c.args.groups.now c.args.set _ c.count_equal.result c.index-groups-set.result c.requires (omega arith) c.index-groups-set.is c.count_equal.ensures.count
