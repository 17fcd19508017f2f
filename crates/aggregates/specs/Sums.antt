-- Wrapping addition is associative, and 0 is neutral to the numbers that fit.
use Rattle.std.specs.Prelude.{◌≡◌, ℤ, pos, ◌+ℤ◌, Some, None}
use Rattle.std.proofs.Common.{arith, lit<}
use Rattle.std.proofs.Math.IntN.{+ℤ_assoc}
use Rattle.std.specs.Int.{w64}
use Rattle.std.proofs.lemmas.Int.{ints, int_wrap-add_left, int_wrap-add_right, int_wrap_fits, SFits-int_wrap}
use Rattle.cells.specs.Rows.{CellOf}
use Rattle.aggregates.specs.Wrapping.{Fits, cut, added, FitsCell, cut_cell, number}

pub added-assoc : (a b c : ℤ) → added (added a b) c ≡ added a (added b c)
added-assoc a b c = grind (arith, int_wrap-add_left, int_wrap-add_right, +ℤ_assoc)

pub added-left : (a : ℤ) → Fits a → added (pos 0) a ≡ a
added-left a f = grind (arith, ints, int_wrap_fits w64 a f)

pub added-right : (a : ℤ) → Fits a → added a (pos 0) ≡ a
added-right a f = grind (arith, ints, int_wrap_fits w64 a f)

pub added-fits : (a b : ℤ) → Fits (added a b)
added-fits a b = SFits-int_wrap w64 (a +ℤ b)

pub cut_fits : (v : ℤ) → Fits v → cut v ≡ v
cut_fits v f = int_wrap_fits w64 v f

pub number_fits : (c : CellOf) → Fits (number c)
number_fits None = record { sfits = lit< tt }
number_fits (Some v) = SFits-int_wrap w64 v

pub cut_cell-fits : (c : CellOf) → FitsCell (cut_cell c)
cut_cell-fits None = tt
cut_cell-fits (Some v) = SFits-int_wrap w64 v
