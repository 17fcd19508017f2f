-- Small facts to tell cases apart by.
use Rattle.std.proofs.Common.{◌≡◌, ℕ, true, false, List, refl, inl, inr, arith}
use Rattle.std.proofs.lemmas.Bool.{cases_Bool}
use Rattle.cells.specs.Rows.{CellOf}
use Rattle.cells.specs.Same.{same_key}
use Rattle.cells.proofs.Same.{key_decides}

-- where two constructors would be equal, `cc` proves this equation
pub never : {P : Type 0} → ◌≡◌ {A = ℕ} 0 1 → P
never e = absurd (omega arith)

pub same_itself : (k : List CellOf) → same_key k k ≡ true
same_itself k = (key_decides k k).1 refl

pub not_same : (x k : List CellOf) → (x ≡ k → ⊥) → same_key x k ≡ false
not_same x k ne = elim (cases_Bool (same_key x k)) [ inl e ↦ absurd (ne ((key_decides x k).0 e)) | inr e ↦ e ]
