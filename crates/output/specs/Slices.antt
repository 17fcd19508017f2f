-- Rows as they stand in a slice of values and a slice of flags. Assumes nothing.
use Rattle.std.specs.Prelude.{ℕ, zero, suc, List, [], ◌∷◌, ◌++◌, ℤ, pos, Some, None}
use Rattle.cells.specs.Rows.{CellOf, overlaid}

-- an absent cell has the value 0 and the flag 0
abbrev pub value_of : CellOf → ℤ
value_of None = pos 0
value_of (Some v) = v

abbrev pub flag_of : CellOf → ℕ
flag_of None = 0
flag_of (Some v) = 1

-- the first so many cells of a row, absent ones where it is shorter
abbrev pub padded : ℕ → List CellOf → List CellOf
padded zero row = []
padded (suc width) [] = None ∷ padded width []
padded (suc width) (c ∷ row) = c ∷ padded width row

-- rows one behind the other, all of one width
abbrev pub flat : ℕ → List (List CellOf) → List CellOf
flat width [] = []
flat width (row ∷ rows) = padded width row ++ flat width rows

-- xs written over ys from a place on, as far as ys goes
abbrev pub put_at : {X : Type 0} → ℕ → List X → List X → List X
put_at zero xs ys = overlaid xs ys
put_at (suc start) xs [] = []
put_at (suc start) xs (y ∷ ys) = y ∷ put_at start xs ys
