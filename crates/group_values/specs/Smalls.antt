-- The keys that a small table stands for. Assumes nothing.
use Rattle.std.specs.Prelude.{List, map}
use Rattle.cells.specs.Rows.{CellOf}
use Rattle.group_values.specs.Slots.{slot_key}
use Rattle.group_values.specs.declared.small_table.GroupValuesSmall.{GroupValuesSmall}

abbrev pub small_keys : GroupValuesSmall → List (List CellOf)
small_keys t = map slot_key t.slots.items
