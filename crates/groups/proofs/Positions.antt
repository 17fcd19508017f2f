-- Positions that stand once, by the question's test and by places.
use Rattle.std.proofs.Common.{◌≡◌, ℕ, zero, suc, Bool, false, not, eqb, List, [], ◌∷◌, Decides, sym, refl, ◌∙◌, inl, inr, true≢false, arith}
use Rattle.std.specs.Bool.{one_answer}
use Rattle.std.specs.List.{list_any}
use Rattle.std.proofs.lemmas.Bool.{eqb-true, eq-eqb, and_parts, and_from, not-true, not_from_false, cases_Bool}
use Rattle.std.proofs.lemmas.List.Folds.{Any-from_list_any, list_any_at}
use Rattle.group_by.specs.Counts.{Distinct}
use Rattle.model.specs.Questions.{distinct}

later : (x : ℕ) (xs : List ℕ) → Distinct (x ∷ xs) → Distinct xs
later x xs h i j d l m e = h (suc i) (suc j) d (omega arith) (omega arith) e

apart : (x : ℕ) (xs : List ℕ) → list_any (λ y. eqb y x) xs ≡ false → Distinct xs → Distinct (x ∷ xs)
apart x xs none h i zero d l m e = omega arith
apart x xs none h zero (suc j) d l m e =
    true≢false (sym (list_any_at (λ y. eqb y x) xs j d (omega arith) (eq-eqb _ x (sym e))) ∙ none)
apart x xs none h (suc i) (suc j) d l m e = h i j d (omega arith) (omega arith) e

distinct-decides : (xs : List ℕ) → Decides (distinct xs) (Distinct xs)
distinct-decides [] = (λ _ i j d l m e. omega arith, λ _. refl)
distinct-decides (x ∷ xs) =
    let again = list_any (λ y. eqb y x) xs in (
      λ e.
          let p = and_parts (not again) (distinct xs) e in
          apart x xs (not-true again p.0) ((distinct-decides xs).0 p.1),
      λ h.
          elim (cases_Bool again) [
            | inl e ↦
                let r = Any-from_list_any (λ y. eqb y x) xs e in
                absurd (h 0 (suc r.0) r.1 (omega arith) (omega (arith, r.2)) (sym (r.3 ∙ eqb-true r.1 x r.4)))
            | inr e ↦ and_from (not again) (distinct xs) (not_from_false again e) ((distinct-decides xs).1 (later x xs h))
          ],
    )

pub distinct_is : (xs : List ℕ) (r : Bool) → Decides r (Distinct xs) → r ≡ distinct xs
distinct_is xs r h = one_answer r (distinct xs) h (distinct-decides xs)
