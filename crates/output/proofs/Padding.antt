-- A row padded to a width has that many cells, and is the row itself where it had them.
use Rattle.std.proofs.Common.{◌≡◌, ℕ, zero, suc, List, [], ◌∷◌, ◌++◌, length, get_or, None, refl, ap, arith}
use Rattle.cells.specs.Rows.{CellOf}
use Rattle.output.specs.Slices.{padded}

-- one column more is one cell more
pub padded-push : (n : ℕ) (row : List CellOf) → padded (suc n) row ≡ padded n row ++ get_or row n None ∷ []
padded-push zero [] = refl
padded-push zero (c ∷ row) = refl
padded-push (suc n) [] = ap (λ (cs : List CellOf). None ∷ cs) (padded-push n [])
padded-push (suc n) (c ∷ row) = ap (λ (cs : List CellOf). c ∷ cs) (padded-push n row)

pub length-padded : (n : ℕ) (row : List CellOf) → length (padded n row) ≡ n
length-padded zero row = refl
length-padded (suc n) [] = ap suc (length-padded n [])
length-padded (suc n) (c ∷ row) = ap suc (length-padded n row)

-- a row of that width stays as it is
pub padded-exact : (width : ℕ) (row : List CellOf) → length row ≡ width → padded width row ≡ row
padded-exact zero [] e = refl
padded-exact zero (c ∷ row) e = absurd (omega arith)
padded-exact (suc width) [] e = absurd (omega arith)
padded-exact (suc width) (c ∷ row) e = ap (λ (cs : List CellOf). c ∷ cs) (padded-exact width row (omega arith))
