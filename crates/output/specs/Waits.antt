-- The rows that wait, as their calls speak of them. Assumes nothing.
use Rattle.std.specs.Prelude.{ℕ, List, drop, vec_items, vec_len}
use Rattle.cells.specs.Rows.{CellOf}
use Rattle.output.specs.declared.waiting.Waiting.{Waiting}

-- those that have not been handed out, in their order
abbrev pub waiting_rows : Waiting → List (List CellOf)
waiting_rows w = drop w.at (vec_items w.rows)

-- how many places are taken, by rows that were handed out too
abbrev pub stored : Waiting → ℕ
stored w = vec_len w.rows
