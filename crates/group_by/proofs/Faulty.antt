-- The scan for the first set that has no id, and the ids where each has one.
use Rattle.std.proofs.Common.{◌≡◌, ℕ, zero, suc, ◌+◌, ◌^◌, ◌<◌, Bool, List, [], ◌∷◌, ◌++◌, map, length, get_or, drop, ℤ, Some, None, vec_items, Option, Vec, sym, refl, ap, ◌∙◌, subst, arith, w64, to_z, of_z}
use Rattle.std.specs.List.{range_with_len}
use Rattle.std.specs.declared.alloc.Global.{Global}
use Rattle.std.proofs.lemmas.List.FromFn.{length-map-range_with_len, get_or-map-range_with_len, map-range_with_len_more}
use Rattle.std.proofs.lemmas.List.{at_drop_more, length-map}
use Rattle.std.proofs.lemmas.Int.{of_z-to_z}
use Rattle.cells.specs.Refusals.{Refusal}
use Rattle.group_by.specs.Ids.{group_id_fault, id_of}
use Rattle.group_by.specs.Sets.{sets_of, ordinal_of, greatest_ordinal, for_each, fault_at, first_some, sets_fault, id_at, IdsDiffer}
use Rattle.group_by.proofs.Numbers.{id_fits}
use Rattle.group_by.proofs.Ordinals.{marks_at, greatest_within, ids-differ}

-- the sets before i have ids
abbrev pub Passed : List (List Bool) → ℕ → Type 0
Passed sets i = first_some (drop i (for_each sets (fault_at sets))) ≡ sets_fault sets

-- with what is known of the i-th set: its fault is the answer, or the sets before i + 1 have ids
pub at_set : (sets : List (List Bool)) (i : ℕ) (o : Option Refusal) → i < length sets → Passed sets i → o ≡ fault_at sets i
    → first_some (o ∷ drop (i + 1) (for_each sets (fault_at sets))) ≡ sets_fault sets
at_set sets i o l so_far at =
    let faults : List (Option Refusal) = for_each sets (fault_at sets) in
    let e : get_or faults i None ≡ fault_at sets i = get_or-map-range_with_len (fault_at sets) 0 (length sets) i i None l (omega arith) in
    ap (λ (p : Option Refusal). first_some (p ∷ drop (i + 1) faults)) (at ∙ sym e)
    ∙ sym (at_drop_more first_some faults i None (omega (arith, length-map-range_with_len (fault_at sets) 0 (length sets))))
    ∙ so_far

all_none : {X : Type 0} (os : List (Option X)) → first_some os ≡ None → (k : ℕ) → k < length os → get_or os k None ≡ None
all_none [] h k l = refl
all_none (None ∷ os) h zero l = refl
all_none (None ∷ os) h (suc k) l = all_none os h k (omega arith)
all_none (Some x ∷ os) h k l = let z : ◌≡◌ {A = ℕ} 0 1 = cc in absurd (omega arith)

-- ---- where each set has an id

id_below : (sets : List (List Bool)) (i : ℕ) → length sets < 2 ^ 64 → sets_fault sets ≡ None → i < length sets
    → id_of (get_or sets i []) (ordinal_of sets i) < 2 ^ 64
id_below sets i few none l =
    let e = all_none (for_each sets (fault_at sets)) none i (omega (arith, length-map-range_with_len (fault_at sets) 0 (length sets))) in
    id_fits (get_or sets i []) (ordinal_of sets i) (greatest_ordinal sets) (omega (arith, greatest_within sets))
    (sym (get_or-map-range_with_len (fault_at sets) 0 (length sets) i i None l (omega arith)) ∙ e)

pub ids-distinct : (sets : List (List Bool)) → length sets < 2 ^ 64 → sets_fault sets ≡ None → IdsDiffer sets
ids-distinct sets few none n over i j d l h e =
    let m = length sets in
    let lj : j < m = omega (arith, length-map-range_with_len (id_at sets) 0 m) in
    let id : ℕ → ℕ = λ k. id_of (get_or sets k []) (ordinal_of sets k) in
    let same : id_at sets i ≡ id_at sets j =
    sym (get_or-map-range_with_len (id_at sets) 0 m i i d (omega arith) (omega arith)) ∙ e ∙ get_or-map-range_with_len (id_at sets) 0 m j j d lj (omega arith) in
    ids-differ n sets over i j l lj
    (sym (of_z-to_z w64 (id i) (id_below sets i few none (omega arith))) ∙ ap (of_z w64) same ∙ of_z-to_z w64 (id j) (id_below sets j few none lj))

module _ (groups : List (Vec Bool Global)) (i o : ℕ) (g : Vec Bool Global) (marks : List Bool) (l : i < length groups) (at : g ≡ get_or groups i g)
    (value : marks ≡ vec_items g) (ordinal : o ≡ ordinal_of (sets_of groups) i) where
  marks_are : marks ≡ get_or (sets_of groups) i []
  marks_are = value ∙ marks_at groups i g l at

  pub fault_is : (m : ℕ) → m ≡ greatest_ordinal (sets_of groups) → group_id_fault marks o m ≡ fault_at (sets_of groups) i
  fault_is m greatest =
      ap (λ (s : List Bool). group_id_fault s o m) marks_are
      ∙ ap (λ (k : ℕ). group_id_fault (get_or (sets_of groups) i []) k m) ordinal
      ∙ ap (group_id_fault (get_or (sets_of groups) i []) (ordinal_of (sets_of groups) i)) greatest

  pub id_is : id_of marks o ≡ id_of (get_or (sets_of groups) i []) (ordinal_of (sets_of groups) i)
  id_is = ap (λ (s : List Bool). id_of s o) marks_are ∙ ap (id_of (get_or (sets_of groups) i [])) ordinal

  pub id_small : length groups < 2 ^ 64 → sets_fault (sets_of groups) ≡ None → id_of marks o < 2 ^ 64
  id_small few none =
      let n = length-map groups vec_items in
      subst (λ (k : ℕ). k < 2 ^ 64) (sym id_is) (id_below (sets_of groups) i (omega arith) none (omega arith))

  pub ids_more : (xs ys : List ℤ) (id : ℕ) (z : ℤ) → xs ≡ map (id_at (sets_of groups)) (range_with_len 0 i) → id ≡ id_of marks o → z ≡ to_z w64 id → ys ≡ xs ++ z ∷ []
      → ys ≡ map (id_at (sets_of groups)) (range_with_len 0 (i + 1))
  ids_more xs ys id z so_far is signed pushed =
      pushed
      ∙ ap (λ (zs : List ℤ). zs ++ z ∷ []) so_far
      ∙ ap (λ (y : ℤ). map (id_at (sets_of groups)) (range_with_len 0 i) ++ y ∷ []) (signed ∙ ap (to_z w64) (is ∙ id_is))
      ∙ sym (map-range_with_len_more (id_at (sets_of groups)) 0 i i (omega arith))
