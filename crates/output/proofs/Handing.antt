-- The rows that are handed out are the first of those that wait, and the others wait on.
use Rattle.std.proofs.Common.{◌≡◌, ℕ, ◌+◌, ◌-◌, min, List, length, take, drop, sym, ap, ◌∙◌, inl, inr, arith}
use Rattle.std.proofs.lemmas.List.{length-drop, take_all, drop_all, drop-drop}
use Rattle.std.proofs.lemmas.Bool.{cases_lt}

module _ {X : Type 0} (items : List X) (at n end : ℕ) (ends : end ≡ at + min n (length items - at)) where
  pub handed_out : take (end - at) (drop at items) ≡ take n (drop at items)
  handed_out =
      let size = length-drop at items in
      elim (cases_lt n (length items - at)) [
        | inl less ↦ let all : end - at ≡ n = omega arith in ap (λ (m : ℕ). take m (drop at items)) all
        | inr more ↦ take_all (end - at) (drop at items) (omega arith) ∙ sym (take_all n (drop at items) (omega arith))
      ]

  pub wait_on : drop end items ≡ drop n (drop at items)
  wait_on =
      let rest : drop end items ≡ drop (at + n) items = elim (cases_lt n (length items - at)) [
        | inl less ↦ let all : end ≡ at + n = omega arith in ap (λ (m : ℕ). drop m items) all
        | inr more ↦ drop_all end items (omega arith) ∙ sym (drop_all (at + n) items (omega arith))
      ] in
      rest ∙ sym (drop-drop n at items)
