-- The keys that a row table stands for. Assumes nothing.
use Rattle.std.specs.Prelude.{List, vec_items}
use Rattle.cells.specs.Rows.{CellOf}
use Rattle.group_values.specs.declared.row_table.GroupValuesRows.{GroupValuesRows}

abbrev pub row_keys : GroupValuesRows → List (List CellOf)
row_keys t = vec_items t.keys
