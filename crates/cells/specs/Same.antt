-- When two keys are the same key. Assumes nothing.
use Rattle.std.specs.Prelude.{Bool, true, false, ◌&&◌, List, [], ◌∷◌, ℤ, pos, negsuc, Some, None, ◌==◌}
use Rattle.cells.specs.Rows.{CellOf}

abbrev pub same_value : ℤ → ℤ → Bool
same_value (pos m) (pos n) = m == n
same_value (pos m) (negsuc n) = false
same_value (negsuc m) (pos n) = false
same_value (negsuc m) (negsuc n) = m == n

-- two absent cells are the same
abbrev pub same_cell : CellOf → CellOf → Bool
same_cell None None = true
same_cell None (Some y) = false
same_cell (Some x) None = false
same_cell (Some x) (Some y) = same_value x y

abbrev pub same_key : List CellOf → List CellOf → Bool
same_key [] [] = true
same_key [] (y ∷ ys) = false
same_key (x ∷ xs) [] = false
same_key (x ∷ xs) (y ∷ ys) = same_cell x y && same_key xs ys
