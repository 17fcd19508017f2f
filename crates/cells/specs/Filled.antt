-- Cells in an array, the places behind them absent. Assumes nothing.
use Rattle.std.specs.Prelude.{ℕ, ◌-◌, List, ◌++◌, length, replicate, None}
use Rattle.cells.specs.Rows.{CellOf}

-- the array of n places that holds the cells at its front
abbrev pub filled : ℕ → List CellOf → List CellOf
filled n cells = cells ++ replicate (n - length cells) None
