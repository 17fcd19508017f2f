-- Cells and rows, as contracts speak of them. Assumes nothing.
use Rattle.std.specs.Prelude.{ℕ, zero, suc, cond, List, [], ◌∷◌, take, drop, ℤ, Some, None, Option, ◌==◌}

-- a cell: a value, or absent
abbrev pub CellOf : Type 0
CellOf = Option ℤ

-- present where the flag is 1
abbrev pub cell_of : ℤ → ℕ → CellOf
cell_of value flag = cond (flag == 1) (Some value) None

abbrev pub cells_of : List ℤ → List ℕ → List CellOf
cells_of [] flags = []
cells_of (v ∷ values) [] = []
cells_of (v ∷ values) (f ∷ flags) = cell_of v f ∷ cells_of values flags

-- n rows of C cells each, row by row
abbrev pub rows_of : ℕ → ℕ → List CellOf → List (List CellOf)
rows_of zero C cells = []
rows_of (suc n) C cells = take C cells ∷ rows_of n C (drop C cells)

-- xs written from the front over ys, as far as ys goes; what lies behind stays
abbrev pub overlaid : {X : Type 0} → List X → List X → List X
overlaid [] ys = ys
overlaid (x ∷ xs) [] = []
overlaid (x ∷ xs) (y ∷ ys) = x ∷ overlaid xs ys
