-- A count goes on by one element, and what counts say of places that hold the same.
use Rattle.std.proofs.Common.{◌≡◌, ℕ, suc, ◌+◌, ◌<◌, Bool, true, cond, eqb, List, [], ◌∷◌, length, get_or, take, count_by, sym, ap, ◌∙◌, inl, inr, arith}
use Rattle.std.proofs.lemmas.List.{get_or-take, get_or_default, length-take-le}
use Rattle.std.proofs.lemmas.List.Sums.{sum_by_more, sum_by-cons, get_or-le-sum_by}
use Rattle.std.proofs.lemmas.Bool.{eqb-true, eq-eqb, cases_Bool, cases_lt}
use Rattle.group_by.specs.Counts.{Counts, Distinct}

pub counts_more : {K : Type 0} (E : K → K → Bool) (xs : List K) (x y : K) (i n m : ℕ) (t : Bool)
    → i < length xs → y ≡ get_or xs i y → E y x ≡ t → m ≡ n + cond t 1 0
    → Counts E (take i xs) x n → Counts E (take (i + 1) xs) x m
counts_more E xs x y i n m t l at is e h =
    let same : E (get_or xs i y) x ≡ t = rw (← at) is in
    rw (e, h, ← same) (sym (sum_by_more (λ z. cond (E z x) 1 0) xs i y l))

-- where the count is not 0, some element passes
some_passes : {X : Type 0} (p : X → Bool) (xs : List X) → 0 < count_by p xs
    → (k : ℕ) × (k < length xs) × ((d : X) → p (get_or xs k d) ≡ true)
some_passes p [] h = absurd (omega arith)
some_passes p (x ∷ xs) h =
    let c = sum_by-cons (λ y. cond (p y) 1 0) x xs in
    elim (cases_Bool (p x)) [
      | inl e ↦ (0, omega arith, λ d. e)
      | inr e ↦
          let z : ◌≡◌ {A = ℕ} (cond (p x) 1 0) 0 = ap (λ (b : Bool). cond b 1 0) e in
          let r = some_passes p xs (omega (arith, c, z)) in
          (suc r.0, omega (arith, r.1), r.2)
    ]

module _ (xs : List ℕ) (i k x n : ℕ) (l : i < length xs) (from : k ≡ i) (at : x ≡ get_or xs i 0)
    (count : n ≡ count_by (λ y. eqb y x) (take k xs)) where
  front : n ≡ count_by (λ y. eqb y x) (take i xs)
  front = count ∙ ap (λ (j : ℕ). count_by (λ y. eqb y x) (take j xs)) from

  -- x stands at i, and n times before
  pub distinct_more : n ≡ 0 → Distinct (take i xs) → Distinct (take (i + 1) xs)
  distinct_more none so_far a b d lt in-front same =
      let len : length (take (i + 1) xs) ≡ i + 1 = length-take-le (i + 1) xs (omega arith) in
      let len' : length (take i xs) ≡ i = length-take-le i xs (omega arith) in
      let lb : b < i + 1 = omega (arith, len) in
      let same' : get_or xs a d ≡ get_or xs b d = sym (get_or-take (i + 1) xs a d (omega arith)) ∙ same ∙ get_or-take (i + 1) xs b d lb in
      elim (cases_lt b i) [
        | inl lt' ↦ so_far a b d lt (omega (arith, len')) (get_or-take i xs a d (omega arith) ∙ same' ∙ sym (get_or-take i xs b d lt'))
        | inr ge ↦
            let here : get_or xs b d ≡ x = ap (λ (j : ℕ). get_or xs j d) (omega arith) ∙ get_or_default xs i d 0 l ∙ sym at in
            let t : eqb (get_or (take i xs) a d) x ≡ true = eq-eqb (get_or (take i xs) a d) x (get_or-take i xs a d (omega arith) ∙ same' ∙ here) in
            let le = get_or-le-sum_by (λ y. cond (eqb y x) 1 0) (take i xs) a d (omega (arith, len')) in
            let one : ◌≡◌ {A = ℕ} (cond (eqb (get_or (take i xs) a d) x) 1 0) 1 = ap (λ (b : Bool). cond b 1 0) t in
            omega (arith, front, le, one)
      ]

  pub not_distinct : 0 < n → Distinct xs → ⊥
  not_distinct some distinct =
      let r = some_passes (λ y. eqb y x) (take i xs) (omega (arith, front)) in
      let lt : r.0 < i = omega (arith, length-take-le i xs (omega arith), r.1) in
      distinct r.0 i 0 lt l (sym (get_or-take i xs r.0 0 lt) ∙ eqb-true (get_or (take i xs) r.0 0) x (r.2 0) ∙ at)
