-- Equal sets counted, the greatest ordinal, and ids that differ.
use Rattle.std.proofs.Common.{◌≡◌, ℕ, zero, suc, ◌+◌, ◌<◌, ◌≤◌, max, Bool, true, false, ◌&&◌, cond, List, [], ◌∷◌, map, length, get_or, take, vec_items, Decides, fold, count_by, Vec, sym, refl, ap, ◌∙◌, subst, arith}
use Rattle.std.specs.List.{range_with_len}
use Rattle.std.specs.Bool.{beq}
use Rattle.std.specs.Cmp.{booleans_Decides}
use Rattle.std.specs.Cmp.Lexicographic.{pointwise, pointwise_decides}
use Rattle.std.specs.declared.alloc.Global.{Global}
use Rattle.std.proofs.lemmas.List.{get_or-map, take-map, take-take, length-take}
use Rattle.std.proofs.lemmas.List.Sums.{sum_by-cons, sum_by-take-le, fold_push, count_by_more_yes, count_by-le-length}
use Rattle.std.proofs.lemmas.List.FromFn.{map-range_with_len_more}
use Rattle.group_by.specs.Marks.{with_mark}
use Rattle.group_by.specs.Ids.{id_of}
use Rattle.group_by.specs.Sets.{sets_of, same_marks, ordinal_of, greatest_ordinal, Over}
use Rattle.group_by.proofs.Numbers.{marks_behind}

-- ---- what `==` answers at marks

same_marks-is : (xs ys : List Bool) → pointwise beq xs ys ≡ same_marks xs ys
same_marks-is [] [] = refl
same_marks-is [] (y ∷ ys) = refl
same_marks-is (x ∷ xs) [] = refl
same_marks-is (x ∷ xs) (y ∷ ys) = ap (λ (b : Bool). beq x y && b) (same_marks-is xs ys)

marks_decide : (xs ys : List Bool) → Decides (same_marks xs ys) (xs ≡ ys)
marks_decide xs ys = subst (λ (b : Bool). Decides b (xs ≡ ys)) (same_marks-is xs ys) (pointwise_decides booleans_Decides xs ys)

-- ---- ordinals

count_map : {X Y : Type 0} (p : Y → Bool) (q : X → Bool) (f : X → Y) → ((x : X) → p (f x) ≡ q x) → (xs : List X)
    → count_by p (map f xs) ≡ count_by q xs
count_map p q f alike [] = refl
count_map p q f alike (x ∷ xs) =
    sum_by-cons (λ y. cond (p y) 1 0) (f x) (map f xs)
    ∙ ap (λ (b : Bool). cond b 1 0 + count_by p (map f xs)) (alike x)
    ∙ ap (λ (k : ℕ). cond (q x) 1 0 + k) (count_map p q f alike xs)
    ∙ sym (sum_by-cons (λ y. cond (q y) 1 0) x xs)

pub marks_at : (groups : List (Vec Bool Global)) (i : ℕ) (g : Vec Bool Global) → i < length groups → g ≡ get_or groups i g
    → vec_items g ≡ get_or (sets_of groups) i []
marks_at groups i g l at = ap vec_items at ∙ sym (get_or-map vec_items groups i g [] l)

pub ordinal_is : (groups : List (Vec Bool Global)) (i k n : ℕ) (g : Vec Bool Global) → i < length groups → k ≡ i → g ≡ get_or groups i g
    → n ≡ count_by (λ y. pointwise beq (vec_items y) (vec_items g)) (take k groups) → n ≡ ordinal_of (sets_of groups) i
ordinal_is groups i k n g l from at count =
    let same : Vec Bool Global → Bool = λ y. pointwise beq (vec_items y) (vec_items g) in
    count
    ∙ ap (λ (j : ℕ). count_by same (take j groups)) from
    ∙ sym (count_map (λ s. same_marks s (vec_items g)) same vec_items (λ y. sym (same_marks-is (vec_items y) (vec_items g))) (take i groups))
    ∙ ap (λ (sets : List (List Bool)). count_by (λ s. same_marks s (vec_items g)) sets) (sym (take-map vec_items i groups))
    ∙ ap (λ (m : List Bool). count_by (λ s. same_marks s m) (take i (sets_of groups))) (marks_at groups i g l at)

-- ---- the greatest ordinal

pub greatest_more : (f : ℕ → ℕ) (i a b m : ℕ) → a ≡ fold max 0 (map f (range_with_len 0 i)) → b ≡ f i → m ≡ max a b
    → m ≡ fold max 0 (map f (range_with_len 0 (i + 1)))
greatest_more f i a b m so_far at e =
    e
    ∙ ap (λ (k : ℕ). max k b) so_far
    ∙ ap (λ (k : ℕ). max (fold max 0 (map f (range_with_len 0 i))) k) at
    ∙ sym (fold_push max 0 (map f (range_with_len 0 i)) (f i))
    ∙ ap (fold max 0) (sym (map-range_with_len_more f 0 i i (omega arith)))

greatest_below : (f : ℕ → ℕ) (b : ℕ) → ((i : ℕ) → f i ≤ b) → (a : ℕ) → a ≤ b → (k n : ℕ) → fold max a (map f (range_with_len k n)) ≤ b
greatest_below f b each a h k zero = h
greatest_below f b each a h k (suc n) = greatest_below f b each (max a (f k)) (omega (arith, each k)) (k + 1) n

pub greatest_within : (sets : List (List Bool)) → greatest_ordinal sets ≤ length sets
greatest_within sets =
    greatest_below (ordinal_of sets) (length sets)
    (λ i. omega (arith, count_by-le-length (λ s. same_marks s (get_or sets i [])) (take i sets), length-take i sets))
    0 (omega arith) 0 (length sets)

-- ---- ids differ

digit_back : (x y : Bool) (a b : ℕ) → with_mark a x ≡ with_mark b y → (a ≡ b) × (x ≡ y)
digit_back true true a b e = (omega arith, refl)
digit_back false false a b e = (omega arith, refl)
digit_back true false a b e = absurd (omega arith)
digit_back false true a b e = absurd (omega arith)

-- the number gives back its marks, and what they stand behind
marks_back : (xs ys : List Bool) (a b : ℕ) → length xs ≡ length ys → fold with_mark a xs ≡ fold with_mark b ys → (a ≡ b) × (xs ≡ ys)
marks_back [] [] a b l e = (e, refl)
marks_back [] (y ∷ ys) a b l e = absurd (omega arith)
marks_back (x ∷ xs) [] a b l e = absurd (omega arith)
marks_back (x ∷ xs) (y ∷ ys) a b l e =
    let rest = marks_back xs ys (with_mark a x) (with_mark b y) (omega arith) e in
    let d = digit_back x y a b rest.0 in
    let h : x ≡ y = d.1 in
    let t : xs ≡ ys = rest.1 in
    (d.0, cc)

-- of two equal sets the later has the greater ordinal
later_greater : (sets : List (List Bool)) (i j : ℕ) → i < j → j < length sets → get_or sets i [] ≡ get_or sets j [] → ordinal_of sets i < ordinal_of sets j
later_greater sets i j l h same =
    let p : List Bool → Bool = λ s. same_marks s (get_or sets j []) in
    let e = count_by_more_yes p sets i [] (omega arith) ((marks_decide (get_or sets i []) (get_or sets j [])).1 same) in
    let m = sum_by-take-le (λ s. cond (p s) 1 0) (take j sets) (i + 1) in
    let k : take (i + 1) (take j sets) ≡ take (i + 1) sets = take-take (i + 1) j sets (omega arith) in
    let w : ordinal_of sets i ≡ count_by p (take i sets) = ap (λ (s : List Bool). count_by (λ z. same_marks z s) (take i sets)) same in
    omega (arith, e, rw k at m, w)

pub ids-differ : (n : ℕ) (sets : List (List Bool)) → Over n sets → (i j : ℕ) → i < j → j < length sets
    → id_of (get_or sets i []) (ordinal_of sets i) ≡ id_of (get_or sets j []) (ordinal_of sets j) → ⊥
ids-differ n sets over i j l h e =
    let x = get_or sets i [] in
    let y = get_or sets j [] in
    let back = marks_back x y (ordinal_of sets i) (ordinal_of sets j) (over i (omega arith) ∙ sym (over j h)) (marks_behind x (ordinal_of sets i) ∙ e ∙ sym (marks_behind y (ordinal_of sets j))) in
    omega (arith, later_greater sets i j l h back.1, back.0)
