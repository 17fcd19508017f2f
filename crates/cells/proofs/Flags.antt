-- The fault of a batch whose slices are sized, by the place of the first flag above 1.
use Rattle.std.proofs.Common.{◌≡◌, ℕ, suc, ◌+◌, ◌/◌, ◌%◌, ◌≤◌, Bool, true, false, cond, ltb, leb, List, [], ◌∷◌, length, ℤ, Some, None, ap, ◌∙◌, refl, inl, inr, arith}
use Rattle.std.specs.List.{position, position_or_len}
use Rattle.std.specs.Option.{option_map}
use Rattle.std.proofs.lemmas.Bool.{cases_lt, eq-eqb, lt-ltb, le-ltb, le-leb, lt-leb}
use Rattle.std.proofs.lemmas.List.Recursion.{is_position_or_len}
use Rattle.cells.specs.Refusals.{Refusal, refusal}
use Rattle.cells.specs.Faults.{sized, first_bad, flag_fault, batch_fault}

abbrev is_bad : ℕ → Bool
is_bad f = ltb 1 f

bad_or_not : (f n : ℕ) → cond (leb f 1) (suc n) 0 ≡ cond (is_bad f) 0 (1 + n)
bad_or_not f n = elim (cases_lt 1 f) [
  | inl bad ↦ rw (lt-leb f 1 bad, lt-ltb 1 f bad) (omega arith)
  | inr good ↦ rw (le-leb f 1 good, le-ltb 1 f good) (omega arith)
]

first_bad-is : (flags : List ℕ) → first_bad flags ≡ position_or_len is_bad flags
first_bad-is = is_position_or_len first_bad is_bad refl (λ f flags. bad_or_not f (first_bad flags))

-- the fault of the flag at a place
abbrev pub flag_at : ℕ → ℕ → Refusal
flag_at C k = refusal 10 (k / C ∷ k % C ∷ [])

where_found : (C k : ℕ) (b : Bool) → cond b (Some (flag_at C k)) None ≡ option_map (flag_at C) (cond b (Some k) None)
where_found C k true = refl
where_found C k false = refl

module _ (C : ℕ) (values : List ℤ) (flags : List ℕ) (some : C ≡ 0 → ⊥) (whole : length values % C ≡ 0)
    (even : length flags ≡ length values) (few : length values / C ≤ 512) where
  sized-is : sized C values flags ≡ true
  sized-is =
      simp (lt-ltb 0 C (omega arith), eq-eqb (length values % C) 0 whole, eq-eqb (length flags) (length values) even, le-leb (length values / C) 512 few)

  pub fault_is : batch_fault C values flags ≡ option_map (flag_at C) (position (λ f. ltb 1 f) flags)
  fault_is =
      ap (λ (b : Bool). cond b (flag_fault C flags) (Some (refusal 9 []))) sized-is
      ∙ ap (λ (k : ℕ). cond (ltb k (length flags)) (Some (flag_at C k)) None) (first_bad-is flags)
      ∙ where_found C (position_or_len is_bad flags) (ltb (position_or_len is_bad flags) (length flags))
