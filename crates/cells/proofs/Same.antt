-- `same_key` decides the equality of keys.
use Rattle.std.proofs.Common.{◌≡◌, ℕ, Bool, true, false, ◌&&◌, List, [], ◌∷◌, ℤ, pos, negsuc, Some, None, Decides, sym, refl, ap, ◌∙◌, true≢false, arith}
use Rattle.std.proofs.lemmas.Bool.{eqb-true, eq-eqb}
use Rattle.cells.specs.Rows.{CellOf}
use Rattle.cells.specs.Same.{same_value, same_cell, same_key}

never : {P : Type 0} → false ≡ true → P
never e = absurd (true≢false (sym e))

value_decides : (x y : ℤ) → Decides (same_value x y) (x ≡ y)
value_decides (pos m) (pos n) = (λ e. ap pos (eqb-true m n e), λ e. let i : m ≡ n = cc in eq-eqb m n i)
value_decides (pos m) (negsuc n) = (never, λ e. let z : ◌≡◌ {A = ℕ} 0 1 = cc in absurd (omega arith))
value_decides (negsuc m) (pos n) = (never, λ e. let z : ◌≡◌ {A = ℕ} 0 1 = cc in absurd (omega arith))
value_decides (negsuc m) (negsuc n) = (λ e. ap negsuc (eqb-true m n e), λ e. let i : m ≡ n = cc in eq-eqb m n i)

cell_decides : (x y : CellOf) → Decides (same_cell x y) (x ≡ y)
cell_decides None None = (λ _. refl, λ _. refl)
cell_decides None (Some y) = (never, λ e. let z : ◌≡◌ {A = ℕ} 0 1 = cc in absurd (omega arith))
cell_decides (Some x) None = (never, λ e. let z : ◌≡◌ {A = ℕ} 0 1 = cc in absurd (omega arith))
cell_decides (Some x) (Some y) = (λ e. ap Some ((value_decides x y).0 e), λ e. let i : x ≡ y = cc in (value_decides x y).1 i)

both : (a b : Bool) → (a && b) ≡ true → (a ≡ true) × (b ≡ true)
both true b e = (refl, e)
both false b e = never e

pub key_decides : (xs ys : List CellOf) → Decides (same_key xs ys) (xs ≡ ys)
key_decides [] [] = (λ _. refl, λ _. refl)
key_decides [] (y ∷ ys) = (never, λ e. let z : ◌≡◌ {A = ℕ} 0 1 = cc in absurd (omega arith))
key_decides (x ∷ xs) [] = (never, λ e. let z : ◌≡◌ {A = ℕ} 0 1 = cc in absurd (omega arith))
key_decides (x ∷ xs) (y ∷ ys) = (
  λ e.
      let p = both (same_cell x y) (same_key xs ys) e in
      let h : x ≡ y = (cell_decides x y).0 p.0 in
      let t : xs ≡ ys = (key_decides xs ys).0 p.1 in
      cc,
  λ e.
      let h : x ≡ y = cc in
      let t : xs ≡ ys = cc in
      ap (λ (b : Bool). b && same_key xs ys) ((cell_decides x y).1 h) ∙ (key_decides xs ys).1 t,
)
