-- Two lists with the same members, each once, are the same up to order.
use Rattle.std.proofs.Common.{◌≡◌, List, [], ◌∷◌, ◌++◌, map, sym, refl, ap, ◌∙◌, subst, inl, inr, arith}
use Rattle.std.specs.List.Sorted.{IsPermutation}
use Rattle.std.proofs.lemmas.List.{map-append}
use Rattle.std.proofs.lemmas.List.Sorted.{IsPermutation-refl, IsPermutation-cons, IsPermutation-swap, IsPermutation-trans}
use Rattle.model.proofs.Gathering.{In, Lacks, Once, in_left, in_right, in_parts, lacks_in, lacks_from}

module _ {X : Type 0} where
  in_middle : (x : X) (ys : List X) → In x ys → (front : List X) × (back : List X) × (ys ≡ front ++ x ∷ back)
  in_middle x [] i = absurd i
  in_middle x (y ∷ ys) (inl e) = ([], ys, ap (λ (z : X). z ∷ ys) e)
  in_middle x (y ∷ ys) (inr i) = let r = in_middle x ys i in (y ∷ r.0, r.1, ap (λ (zs : List X). y ∷ zs) r.2)

  -- the first goes to a place further on
  to_middle : (x : X) (front back : List X) → IsPermutation (x ∷ (front ++ back)) (front ++ x ∷ back)
  to_middle x [] back = IsPermutation-refl (x ∷ back)
  to_middle x (y ∷ front) back =
      IsPermutation-trans (x ∷ y ∷ (front ++ back)) (y ∷ x ∷ (front ++ back)) (y ∷ (front ++ x ∷ back))
      (IsPermutation-swap (x ∷ y ∷ (front ++ back)) (y ∷ x ∷ (front ++ back)) 0 1 (omega arith) (omega arith) refl)
      (IsPermutation-cons y (x ∷ (front ++ back)) (front ++ x ∷ back) (to_middle x front back))

  -- without the one in the middle
  once_others : (x : X) (front back : List X) → Once (front ++ x ∷ back) → Once (front ++ back) × Lacks (front ++ back) x
  once_others x [] back o = (o.1, o.0)
  once_others x (y ∷ front) back o =
      let rest = once_others x front back o.1 in
      let other : y ≡ x → ⊥ = λ e. lacks_in (front ++ x ∷ back) y o.0 (in_right y front (x ∷ back) (inl (sym e))) in
      let lacking : Lacks (front ++ back) y =
      lacks_from (front ++ back) y (λ i. lacks_in (front ++ x ∷ back) y o.0 (elim (in_parts y front back i) [
        | inl j ↦ in_left y front (x ∷ back) j
        | inr j ↦ in_right y front (x ∷ back) (inr j)
      ])) in
      ((lacking, rest.0), (other, rest.1))

-- so are what a function makes of them
pub once_shuffled : {X Y : Type 0} (f : X → Y) (xs ys : List X) → Once xs → Once ys → ((x : X) → In x xs → In x ys)
    → ((x : X) → In x ys → In x xs) → IsPermutation (map f xs) (map f ys)
once_shuffled f [] [] o p there back = IsPermutation-refl []
once_shuffled f [] (y ∷ ys) o p there back = absurd (back y (inl refl))
once_shuffled {X} {Y} f (x ∷ xs) ys o p there back =
    let r = in_middle x ys (there x (inl refl)) in
    let front = r.0 in
    let rear = r.1 in
    let rest = once_others x front rear (subst Once r.2 p) in
    let there' : (z : X) → In z xs → In z (front ++ rear) =
    λ z i. elim (in_parts z front (x ∷ rear) (subst (In z) r.2 (there z (inr i)))) [
      | inl j ↦ in_left z front rear j
      | inr (inl e) ↦ absurd (lacks_in xs x o.0 (subst (λ (y : X). In y xs) (sym e) i))
      | inr (inr j) ↦ in_right z front rear j
    ] in
    let back' : (z : X) → In z (front ++ rear) → In z xs = λ z i.
    let whole : In z ys =
    subst (In z) (sym r.2)
    (elim (in_parts z front rear i) [ inl j ↦ in_left z front (x ∷ rear) j | inr j ↦ in_right z front (x ∷ rear) (inr j) ]) in
    elim (back z whole) [
      | inl e ↦ absurd (lacks_in (front ++ rear) x rest.1 (subst (λ (y : X). In y (front ++ rear)) (sym e) i))
      | inr j ↦ j
    ] in
    let ih = once_shuffled f xs (front ++ rear) o.1 rest.0 there' back' in
    let apart : map f (front ++ rear) ≡ map f front ++ map f rear = map-append f front rear in
    let joined : map f ys ≡ map f front ++ f x ∷ map f rear = ap (map f) r.2 ∙ map-append f front (x ∷ rear) in
    subst (λ (zs : List Y). IsPermutation (f x ∷ map f xs) zs) (sym joined)
    (IsPermutation-trans (f x ∷ map f xs) (f x ∷ (map f front ++ map f rear)) (map f front ++ f x ∷ map f rear)
    (IsPermutation-cons (f x) (map f xs) (map f front ++ map f rear) (subst (λ (zs : List Y). IsPermutation (map f xs) zs) apart ih))
    (to_middle (f x) (map f front) (map f rear)))
