-- Numbers of 64 bits. Assumes nothing.
use Rattle.std.specs.Prelude.{ℤ, pos, ◌+ℤ◌, Some, None, FitsSigned}
use Rattle.std.specs.Int.{int_wrap, w64}
use Rattle.cells.specs.Rows.{CellOf}

abbrev pub Fits : ℤ → Type 0
Fits v = FitsSigned w64 v

-- the number of 64 bits that is v modulo 2 ^ 64
abbrev pub cut : ℤ → ℤ
cut v = int_wrap w64 v

abbrev pub added : ℤ → ℤ → ℤ
added a b = cut (a +ℤ b)

abbrev pub FitsCell : CellOf → Type 0
FitsCell None = Unit {0}
FitsCell (Some v) = Fits v

abbrev pub cut_cell : CellOf → CellOf
cut_cell None = None
cut_cell (Some v) = Some (cut v)

-- an absent number is 0
abbrev pub number : CellOf → ℤ
number None = pos 0
number (Some v) = cut v
