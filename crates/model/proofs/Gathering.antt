-- Keys gathered one after the other, each once: what interning comes to where every key is admitted and there is room.
use Rattle.std.proofs.Common.{◌≡◌, ℕ, suc, ◌+◌, ◌<◌, ◌≤◌, Bool, true, false, cond, ltb, ◌⊎◌, List, [], ◌∷◌, ◌++◌, map, length, Some, None, Option, unwrap_or, sym, refl, ap, ◌∙◌, subst, inl, inr, true≢false, append_assoc, arith}
use Rattle.std.specs.List.{AllByRecursion as All}
use Rattle.std.proofs.lemmas.List.{length_push}
use Rattle.std.proofs.ByRecursion.{All-append}
use Rattle.std.proofs.lemmas.Bool.{cond_both, cond-true, cond-false, lt-ltb, le-ltb, and_from, cases_Bool}
use Rattle.cells.specs.Rows.{CellOf}
use Rattle.cells.specs.Same.{same_key}
use Rattle.cells.proofs.Same.{key_decides}
use Rattle.group_values.specs.Tables.{place_of, holds, enters, interned, placed}
use Rattle.model.specs.Machine.{interned_all, placed_all}

-- the cells of a key or of a row
abbrev pub Cells : Type 0
Cells = List CellOf

-- ---- members

module _ {X : Type 0} where
  abbrev pub In : X → List X → Type 0
  In x [] = ⊥
  In x (y ∷ ys) = (y ≡ x) ⊎ In x ys

  abbrev pub Lacks : List X → X → Type 0
  Lacks ys x = All (λ y. y ≡ x → ⊥) ys

  -- each stands once
  abbrev pub Once : List X → Type 0
  Once [] = Unit {0}
  Once (x ∷ xs) = Lacks xs x × Once xs

  pub in_left : (x : X) (xs ys : List X) → In x xs → In x (xs ++ ys)
  in_left x [] ys i = absurd i
  in_left x (y ∷ xs) ys (inl e) = inl e
  in_left x (y ∷ xs) ys (inr i) = inr (in_left x xs ys i)

  pub in_right : (x : X) (xs ys : List X) → In x ys → In x (xs ++ ys)
  in_right x [] ys i = i
  in_right x (y ∷ xs) ys i = inr (in_right x xs ys i)

  pub in_parts : (x : X) (xs ys : List X) → In x (xs ++ ys) → In x xs ⊎ In x ys
  in_parts x [] ys i = inr i
  in_parts x (y ∷ xs) ys (inl e) = inl (inl e)
  in_parts x (y ∷ xs) ys (inr i) = elim (in_parts x xs ys i) [ inl l ↦ inl (inr l) | inr r ↦ inr r ]

  pub lacks_in : (xs : List X) (x : X) → Lacks xs x → In x xs → ⊥
  lacks_in [] x l i = i
  lacks_in (y ∷ xs) x l (inl e) = l.0 e
  lacks_in (y ∷ xs) x l (inr i) = lacks_in xs x l.1 i

  pub lacks_from : (xs : List X) (x : X) → (In x xs → ⊥) → Lacks xs x
  lacks_from [] x never = tt
  lacks_from (y ∷ xs) x never = (λ e. never (inl e), lacks_from xs x (λ i. never (inr i)))

  pub all_in : (P : X → Type 0) (xs : List X) (x : X) → All P xs → In x xs → P x
  all_in P [] x a i = absurd i
  all_in P (y ∷ xs) x a (inl e) = subst P e a.0
  all_in P (y ∷ xs) x a (inr i) = all_in P xs x a.1 i

  pub all_from_in : (P : X → Type 0) (xs : List X) → ((x : X) → In x xs → P x) → All P xs
  all_from_in P [] h = tt
  all_from_in P (x ∷ xs) h = (h x (inl refl), all_from_in P xs (λ y i. h y (inr i)))

  once_push : (xs : List X) (x : X) → Once xs → Lacks xs x → Once (xs ++ x ∷ [])
  once_push [] x o l = (tt, tt)
  once_push (y ∷ xs) x o l = (All-append (λ z. z ≡ y → ⊥) xs (x ∷ []) o.0 (λ e. l.0 (sym e), tt), once_push xs x o.1 l.1)

pub in_map : {X Y : Type 0} (f : X → Y) (y : Y) (xs : List X) → In y (map f xs) → (x : X) × In x xs × (f x ≡ y)
in_map f y [] i = absurd i
in_map f y (x ∷ xs) (inl e) = (x, inl refl, e)
in_map f y (x ∷ xs) (inr i) = let r = in_map f y xs i in (r.0, inr r.1, r.2)

pub map-in : {X Y : Type 0} (f : X → Y) (x : X) (xs : List X) → In x xs → In (f x) (map f xs)
map-in f x [] i = absurd i
map-in f x (y ∷ xs) (inl e) = inl (ap f e)
map-in f x (y ∷ xs) (inr i) = inr (map-in f x xs i)

-- ---- the place of a key

same_not : (a b : Cells) → (a ≡ b → ⊥) → same_key a b ≡ false
same_not a b ne = elim (cases_Bool (same_key a b)) [ inl e ↦ absurd (ne ((key_decides a b).0 e)) | inr e ↦ e ]

pub place_lacking : (xs : List Cells) (k : Cells) → Lacks xs k → place_of xs k ≡ length xs
place_lacking [] k l = refl
place_lacking (x ∷ xs) k l = cond-false (same_key x k) _ _ (same_not x k l.0) ∙ ap suc (place_lacking xs k l.1)

place_in : (xs : List Cells) (k : Cells) → In k xs → place_of xs k < length xs
place_in [] k i = absurd i
place_in (x ∷ xs) k (inl e) = omega (arith, cond-true (same_key x k) 0 (suc (place_of xs k)) ((key_decides x k).1 e))
place_in (x ∷ xs) k (inr i) =
    cond_both (same_key x k) 0 (suc (place_of xs k)) (λ p. p < suc (length xs)) (λ _. omega arith) (λ _. omega (arith, place_in xs k i))

in_or_lacks : (xs : List Cells) (k : Cells) → In k xs ⊎ Lacks xs k
in_or_lacks [] k = inr tt
in_or_lacks (x ∷ xs) k = go (in_or_lacks xs k) (cases_Bool (same_key x k))
  where
    go : In k xs ⊎ Lacks xs k → ((same_key x k ≡ true) ⊎ (same_key x k ≡ false)) → In k (x ∷ xs) ⊎ Lacks (x ∷ xs) k
    go (inl i) d = inl (inr i)
    go (inr l) (inl e) = inl (inl ((key_decides x k).0 e))
    go (inr l) (inr e) = inr (λ same. true≢false (sym ((key_decides x k).1 same) ∙ e), l)

holds-in : (xs : List Cells) (k : Cells) → In k xs → holds xs k ≡ true
holds-in xs k i = lt-ltb (place_of xs k) (length xs) (place_in xs k i)

holds-lacking : (xs : List Cells) (k : Cells) → Lacks xs k → holds xs k ≡ false
holds-lacking xs k l = le-ltb (place_of xs k) (length xs) (omega (arith, place_lacking xs k l))

-- ---- gathering

-- a key goes to the end, unless it stands already
abbrev pub added : List Cells → Cells → List Cells
added xs k = cond (holds xs k) xs (xs ++ k ∷ [])

abbrev pub gathered : List Cells → List Cells → List Cells
gathered xs [] = xs
gathered xs (k ∷ ks) = gathered (added xs k) ks

added-in : (xs : List Cells) (k : Cells) → In k xs → added xs k ≡ xs
added-in xs k i = cond-true (holds xs k) xs (xs ++ k ∷ []) (holds-in xs k i)

pub added_new : (xs : List Cells) (k : Cells) → Lacks xs k → added xs k ≡ xs ++ k ∷ []
added_new xs k l = cond-false (holds xs k) xs (xs ++ k ∷ []) (holds-lacking xs k l)

-- what holds of the list as it is where the key stands, and of the longer one where it does not
added-ways : (P : List Cells → Type 0) (xs : List Cells) (k : Cells)
    → (In k xs → P xs) → (Lacks xs k → P (xs ++ k ∷ [])) → P (added xs k)
added-ways P xs k old new = elim (in_or_lacks xs k) [
  | inl i ↦ subst P (sym (added-in xs k i)) (old i)
  | inr l ↦ subst P (sym (added_new xs k l)) (new l)
]

in_added : (xs : List Cells) (k x : Cells) → In x xs → In x (added xs k)
in_added xs k x i = added-ways (In x) xs k (λ _. i) (λ _. in_left x xs (k ∷ []) i)

pub added-itself : (xs : List Cells) (k : Cells) → In k (added xs k)
added-itself xs k = added-ways (In k) xs k (λ i. i) (λ _. in_right k xs (k ∷ []) (inl refl))

pub all_added : (P : Cells → Type 0) (xs : List Cells) (k : Cells) → All P xs → P k → All P (added xs k)
all_added P xs k a p = added-ways (All P) xs k (λ _. a) (λ _. All-append P xs (k ∷ []) a (p, tt))

-- what lacks the key may stand before
pub added-behind : (front xs : List Cells) (k : Cells) → Lacks front k → added (front ++ xs) k ≡ front ++ added xs k
added-behind front xs k l =
    added-ways (λ ys. added (front ++ xs) k ≡ front ++ ys) xs k
    (λ i. added-in (front ++ xs) k (in_right k front xs i))
    (λ m. added_new (front ++ xs) k (All-append (λ y. y ≡ k → ⊥) front xs l m) ∙ append_assoc front xs (k ∷ []))

pub gathered_append : (xs ks ls : List Cells) → gathered xs (ks ++ ls) ≡ gathered (gathered xs ks) ls
gathered_append xs [] ls = refl
gathered_append xs (k ∷ ks) ls = gathered_append (added xs k) ks ls

pub gathered_once : (xs ks : List Cells) → Once xs → Once (gathered xs ks)
gathered_once xs [] o = o
gathered_once xs (k ∷ ks) o = gathered_once (added xs k) ks (added-ways Once xs k (λ _. o) (λ l. once_push xs k o l))

gathered_kept : (xs ks : List Cells) (x : Cells) → In x xs → In x (gathered xs ks)
gathered_kept xs [] x i = i
gathered_kept xs (k ∷ ks) x i = gathered_kept (added xs k) ks x (in_added xs k x i)

pub gathered_has : (xs ks : List Cells) (x : Cells) → In x ks → In x (gathered xs ks)
gathered_has xs [] x i = absurd i
gathered_has xs (k ∷ ks) x (inl e) = gathered_kept (added xs k) ks x (subst (λ (y : Cells). In y (added xs k)) e (added-itself xs k))
gathered_has xs (k ∷ ks) x (inr i) = gathered_has (added xs k) ks x i

pub all_gathered : (P : Cells → Type 0) (xs ks : List Cells) → All P xs → All P ks → All P (gathered xs ks)
all_gathered P xs [] a b = a
all_gathered P xs (k ∷ ks) a b = all_gathered P (added xs k) ks (all_added P xs k a b.0) b.1

pub gathered_only : (ks : List Cells) (x : Cells) → In x (gathered [] ks) → In x ks
gathered_only ks x i =
    all_in (λ y. In y ks) (gathered [] ks) x (all_gathered (λ y. In y ks) [] ks tt (all_from_in (λ y. In y ks) ks (λ y j. j))) i

length-added : (xs : List Cells) (k : Cells) → length xs ≤ length (added xs k)
length-added xs k = added-ways (λ ys. length xs ≤ length ys) xs k (λ _. omega arith) (λ _. omega (arith, length_push xs k))

added-length : (xs : List Cells) (k : Cells) → length (added xs k) ≤ length xs + 1
added-length xs k = added-ways (λ ys. length ys ≤ length xs + 1) xs k (λ _. omega arith) (λ _. omega (arith, length_push xs k))

pub length-gathered : (xs ks : List Cells) → length xs ≤ length (gathered xs ks)
length-gathered xs [] = omega arith
length-gathered xs (k ∷ ks) = omega (arith, length-added xs k, length-gathered (added xs k) ks)

-- ---- interning

abbrev pub places_of : List Cells → List Cells → List ℕ
places_of xs [] = []
places_of xs (k ∷ ks) = place_of xs k ∷ places_of (added xs k) ks

module _ (admitted : Cells → Bool) where
  module _ (xs : List Cells) (k : Cells) (in' : admitted k ≡ true) (room : length xs < 512) where
    enters-true : enters admitted xs k ≡ true
    enters-true = and_from (admitted k) (ltb (length xs) 512) in' (lt-ltb (length xs) 512 room)

    interned-is : interned admitted xs k ≡ added xs k
    interned-is = ap (λ (b : Bool). cond (holds xs k) xs (cond b (xs ++ k ∷ []) xs)) enters-true

    placed-is : unwrap_or (placed admitted xs k) 512 ≡ place_of xs k
    placed-is =
        ap (λ (b : Bool). unwrap_or (cond (holds xs k) (Some (place_of xs k)) (cond b (Some (length xs)) None)) 512) enters-true
        ∙ elim (in_or_lacks xs k) [
          | inl i ↦ ap (λ (o : Option ℕ). unwrap_or o 512) (cond-true (holds xs k) _ _ (holds-in xs k i))
          | inr l ↦
              ap (λ (o : Option ℕ). unwrap_or o 512) (cond-false (holds xs k) (Some (place_of xs k)) (Some (length xs)) (holds-lacking xs k l))
              ∙ sym (place_lacking xs k l)
        ]

  -- admitted keys for which there is room are gathered, and given their places
  pub interned-all : (xs ks : List Cells) → All (λ k. admitted k ≡ true) ks → length xs + length ks ≤ 512
      → (interned_all admitted xs ks ≡ gathered xs ks) × (placed_all admitted xs ks ≡ places_of xs ks)
  interned-all xs [] a room = (refl, refl)
  interned-all xs (k ∷ ks) a room =
      let one = interned-is xs k a.0 (omega arith) in
      let place = placed-is xs k a.0 (omega arith) in
      let rest = interned-all (added xs k) ks a.1 (omega (arith, added-length xs k)) in (
        ap (λ (ys : List Cells). interned_all admitted ys ks) one ∙ rest.0,
        ap (λ (p : ℕ). p ∷ placed_all admitted (interned admitted xs k) ks) place
            ∙ ap (λ (ys : List Cells). place_of xs k ∷ placed_all admitted ys ks) one
            ∙ ap (λ (ps : List ℕ). place_of xs k ∷ ps) rest.1,
      )
