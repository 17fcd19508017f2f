-- What an emission hands out of a list, and what it leaves. Assumes nothing.
use Rattle.std.specs.Prelude.{ℕ, min, List, [], take, drop}
use Rattle.cells.specs.declared.emit_to.EmitTo.{EmitTo}
use Rattle.cells.specs.declared.emit_to.EmitTo.TheVariants.{All, First}

abbrev pub emitted : {X : Type 0} → EmitTo → List X → List X
emitted All xs = xs
emitted (First n) xs = take n xs

-- what was at n is then at 0
abbrev pub left : {X : Type 0} → EmitTo → List X → List X
left All xs = []
left (First n) xs = drop n xs

-- how many of n items an emission hands out
abbrev pub dropped : EmitTo → ℕ → ℕ
dropped All n = n
dropped (First m) n = min m n
