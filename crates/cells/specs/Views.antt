-- What a view of a batch stands for. Assumes nothing.
use Rattle.std.specs.Prelude.{◌≡◌, ℕ, ◌/◌, List, length, ℤ, Some, None, Ok, Err, Result}
use Rattle.cells.specs.declared.batch.Batch.{Batch}
use Rattle.cells.specs.declared.batch.BatchFault.{BatchFault}
use Rattle.cells.specs.Rows.{CellOf, cells_of, rows_of}
use Rattle.cells.specs.Refusals.{batch_refusal}
use Rattle.cells.specs.Faults.{batch_fault}

-- the rows that a view shows
abbrev pub view_rows : Batch → List (List CellOf)
view_rows b = rows_of b.rows b.columns (cells_of b.values.now b.flags.now)

-- the rows in two slices, of C columns
abbrev pub rows_in : ℕ → List ℤ → List ℕ → List (List CellOf)
rows_in C values flags = rows_of (length values / C) C (cells_of values flags)

-- the view of the slices, or their fault
abbrev pub Views : ℕ → List ℤ → List ℕ → Result Batch BatchFault → Type 0
Views C values flags (Ok b) = (batch_fault C values flags ≡ None) × (view_rows b ≡ rows_in C values flags)
Views C values flags (Err e) = batch_fault C values flags ≡ Some (batch_refusal e)
