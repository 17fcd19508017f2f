-- Two runs of cells, written over the two parts of a row, lie over the row as one.
use Rattle.std.proofs.Common.{◌≡◌, ℕ, ◌-◌, ◌^◌, ◌<◌, min, List, [], ◌∷◌, ◌++◌, length, take, drop, refl, ap, arith}
use Rattle.std.proofs.lemmas.Grind.{common_steps}
use Rattle.cells.specs.Rows.{overlaid}

module _ {X : Type 0} where
  overlaid-apart : (ps qs xs : List X) → overlaid ps (take (length ps) xs) ++ overlaid qs (drop (length ps) xs) ≡ overlaid (ps ++ qs) xs
  overlaid-apart [] qs xs = refl
  overlaid-apart (p ∷ ps) [] [] = refl
  overlaid-apart (p ∷ ps) (q ∷ qs) [] = refl
  overlaid-apart (p ∷ ps) qs (x ∷ xs) = ap (λ (ys : List X). p ∷ ys) (overlaid-apart ps qs xs)

  -- the row was cut behind the first run, whose length code knows as top, or at its own end
  pub overlaid-cut : (ps qs xs front back : List X) (n top cut : ℕ) → length ps ≡ n → top ≡ min n (2 ^ 64 - 1) → cut ≡ min top (length xs) → length xs < 2 ^ 64
      → front ≡ take cut xs → back ≡ drop cut xs → overlaid ps front ++ overlaid qs back ≡ overlaid (ps ++ qs) xs
  overlaid-cut ps qs xs front back n top cut long known least few is_front is_back =
      let same : cut ≡ min (length ps) (length xs) = omega arith in
      let f : front ≡ take (length ps) xs = grind (arith, common_steps, is_front, same) in
      let b : back ≡ drop (length ps) xs = grind (arith, common_steps, is_back, same) in
      rw (f, b) (overlaid-apart ps qs xs)
