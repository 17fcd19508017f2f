-- What worked-out keys stand for, and when there are none. Assumes nothing.
use Rattle.std.specs.Prelude.{◌≡◌, true, Some, None, Ok, Err, Result}
use Rattle.group_by.specs.declared.grouping_sets.GroupByFault.{GroupByFault}
use Rattle.group_by.specs.declared.grouping_sets.GroupByFault.TheVariants.{Id, Memory}
use Rattle.group_by.specs.declared.keys.GroupByKeys.{GroupByKeys}
use Rattle.cells.specs.declared.refused.Refused.{Refused}
use Rattle.group_by.specs.declared.physical.PhysicalGroupBy.{PhysicalGroupBy}
use Rattle.group_by.specs.Ids.{group_id_refusal}
use Rattle.group_by.specs.Sets.{IdsDiffer}
use Rattle.group_by.specs.Groupings.{GroupBy, group_by, group_by_fault}

abbrev pub keys_of : GroupByKeys → GroupBy
keys_of k = group_by k.group_by

-- memory is asked for only by grouping sets that all have ids
abbrev pub Faulty : GroupBy → GroupByFault → Type 0
Faulty gb (Id e) = group_by_fault gb ≡ Some (group_id_refusal e)
Faulty gb Memory = (gb.grouped ≡ true) × (group_by_fault gb ≡ None)

-- the keys of a grouping, or the grouping back
abbrev pub HasKeys : PhysicalGroupBy → Result GroupByKeys (Refused PhysicalGroupBy GroupByFault) → Type 0
HasKeys g (Ok k) = (group_by_fault (group_by g) ≡ None) × (k.group_by ≡ g) × ((group_by g).grouped ≡ true → IdsDiffer (group_by g).sets)
HasKeys g (Err r) = Faulty (group_by g) r.fault × (r.given ≡ g)
