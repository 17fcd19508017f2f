-- Marks that mask nothing, and the ids of few sets with few marks.
use Rattle.std.proofs.Common.{◌≡◌, ℕ, zero, suc, ◌+◌, ◌-◌, ◌^◌, ◌<◌, ◌≤◌, Bool, true, false, cond, not, ◌&&◌, ◌||◌, ltb, List, [], ◌∷◌, ◌++◌, length, get_or, take, drop, replicate, ℤ, pos, Some, None, Ok, Err, vec_items, Option, Result, Vec, sym, refl, ap, ◌∙◌, inl, inr, add-one, arith, pow_mono}
use lib.Count.{count_leading_zeros}
use Rattle.std.specs.declared.alloc.Global.{Global}
use Rattle.std.proofs.lemmas.List.FromFn.{get_or-map-range_with_len}
use Rattle.std.proofs.lemmas.List.{at_drop_more, length-map, length-take, length-append, length-replicate, take_all}
use Rattle.std.proofs.lemmas.List.Sums.{count_by-le-length}
use Rattle.std.proofs.lemmas.Bool.{le-ltb, cases_lt, or_left, or_right, or_from, not_from_true, not_from_false}
use Rattle.cells.specs.Refusals.{Refusal, refusal}
use Rattle.cells.specs.Rows.{CellOf}
use Rattle.group_by.specs.Marks.{digits, width_of}
use Rattle.group_by.specs.declared.group_id.GroupIdFault.{GroupIdFault}
use Rattle.group_by.specs.Ids.{told, bits_of, group_id_fault, group_id, id_of, unless}
use Rattle.group_by.specs.Groupings.{GroupBy, masked_key}
use Rattle.model.specs.Questions.{all_masked, masks_ok}
use Rattle.model.specs.Setups.{Settings}
use Rattle.groups.specs.Settings.{Sized}
use Rattle.group_by.specs.Sets.{sets_of, same_marks, ordinal_of, id_at, ids}
use Rattle.group_by.proofs.Numbers.{digits_are}
use Rattle.std.specs.List.{list_all}

-- ---- marks that mask nothing

pub other_length : (marks : List Bool) (n : ℕ) → (length marks ≡ n → ⊥) → false ≡ same_marks marks (replicate n false)
other_length [] zero h = absurd (h refl)
other_length [] (suc n) h = refl
other_length (m ∷ marks) zero h = refl
other_length (true ∷ marks) (suc n) h = refl
other_length (false ∷ marks) (suc n) h = other_length marks n (λ e. h (ap suc e))

pub none_masks : (marks : List Bool) (n : ℕ) → length marks ≡ n → list_all not marks ≡ same_marks marks (replicate n false)
none_masks [] zero e = refl
none_masks [] (suc n) e = absurd (omega arith)
none_masks (m ∷ marks) zero e = absurd (omega arith)
none_masks (true ∷ marks) (suc n) e = refl
none_masks (false ∷ marks) (suc n) e = none_masks marks n (omega arith)

-- ---- few marks and few sets have ids

no_digits : digits 0 ≡ 0
unfolding count_leading_zeros
no_digits = refl

few_digits : (g : ℕ) → g ≤ 8 → digits g ≤ 4
few_digits zero h = omega (arith, no_digits)
few_digits (suc g) h =
    elim (cases_lt 4 (digits (suc g))) [
      | inl l ↦
          let low : 2 ^ 4 ≤ 2 ^ (digits (suc g) - 1) = pow_mono {i = 4} {j = digits (suc g) - 1} (omega arith) in
          let top : 2 ^ (digits (suc g) - 1) ≤ suc g = (digits_are (suc g) (omega arith)).needed (omega arith) in
          absurd (omega arith)
      | inr l ↦ l
    ]

pub has_id : (marks : List Bool) (o g : ℕ) → length marks ≤ 6 → o ≤ g → g ≤ 8 → group_id_fault marks o g ≡ None
has_id marks o g short below few =
    let rest : Option Refusal = cond (ltb 64 (bits_of marks g)) (Some (refusal 17 [])) (cond (ltb g o) (Some (refusal 18 [])) None) in
    let last : Option Refusal = cond (ltb g o) (Some (refusal 18 [])) None in
    ap (λ (b : Bool). cond b (Some (refusal 16 [])) rest) (le-ltb 64 (length marks) (omega arith))
    ∙ ap (λ (b : Bool). cond b (Some (refusal 17 [])) last) (le-ltb 64 (bits_of marks g) (omega (arith, few_digits g few)))
    ∙ ap (λ (b : Bool). cond b (Some (refusal 18 [])) None) (le-ltb g o below)

-- what an answer is that is told
pub answer_is : (r : Result (ℕ × ℕ) GroupIdFault) (x : ℕ × ℕ) → told r ≡ Ok x → r ≡ Ok x
answer_is (Ok y) x h = let e : y ≡ x = cc in cc
answer_is (Err e) x h = let z : ◌≡◌ {A = ℕ} 0 1 = cc in absurd (omega arith)

module _ (groups : List (Vec Bool Global)) (i o : ℕ) (marks : List Bool) (few : length groups ≤ 8)
    (short : length (get_or (sets_of groups) i []) ≤ 6) (ordinal : o ≡ ordinal_of (sets_of groups) i) (is : marks ≡ get_or (sets_of groups) i []) where
  pub answered : group_id marks o o ≡ Ok (id_of marks o, width_of (bits_of marks o))
  answered =
      let sets = sets_of groups in
      let below = count_by-le-length (λ s. same_marks s (get_or sets i [])) (take i sets) in
      ap (λ (f : Option Refusal). unless f (id_of marks o, width_of (bits_of marks o)))
      (has_id marks o o (omega (arith, ap length is)) (omega arith) (omega (arith, ordinal, below, length-take i sets, length-map groups vec_items)))

-- ---- the key of a set that masks a row whole

module _ (gb : GroupBy) (s : ℕ) (sized : Sized gb) (l : s < length gb.sets) where
  pub masked_is : (n : ℕ) (id : ℤ) (key : List CellOf) → gb.grouped ≡ true → n ≡ length gb.columns → id ≡ id_at gb.sets s
      → key ≡ take 7 (replicate n None ++ Some id ∷ []) → key ≡ masked_key gb s
  masked_is n id key grouped all at h =
      let none : CellOf = None in
      let short : length (replicate n None ++ Some id ∷ []) ≤ 7 =
      omega (arith, length-append (replicate n None) (Some id ∷ []), length-replicate n none, all, sized.columns) in
      let read : id ≡ get_or (ids gb.sets) s (pos 0) =
      at ∙ sym (get_or-map-range_with_len (id_at gb.sets) 0 (length gb.sets) s s (pos 0) l (omega arith)) in
      h
      ∙ take_all 7 (replicate n None ++ Some id ∷ []) short
      ∙ ap (λ (k : ℕ). replicate k None ++ Some id ∷ []) all
      ∙ ap (λ (z : ℤ). replicate (length gb.columns) None ++ Some z ∷ []) read
      ∙ ap (λ (b : Bool). replicate (length gb.columns) None ++ cond b (Some (get_or (ids gb.sets) s (pos 0)) ∷ []) []) (sym grouped)

-- ---- the scan of the masked keys

module _ (st : Settings) (admitted : List CellOf → Bool) (s : ℕ) (l : s < length st.group_by.sets)
    (so_far : masks_ok st admitted s (drop s st.group_by.sets) ≡ masks_ok st admitted 0 st.group_by.sets) where
  abbrev sets : List (List Bool)
  sets = st.group_by.sets

  here : (b : Bool) → (not (all_masked (get_or sets s [])) || admitted (masked_key st.group_by s)) ≡ b
      → (b && masks_ok st admitted (s + 1) (drop (s + 1) sets)) ≡ masks_ok st admitted 0 sets
  here b e =
      ap (λ (t : Bool). t && masks_ok st admitted (s + 1) (drop (s + 1) sets)) (sym e)
      ∙ ap (λ (k : ℕ). (not (all_masked (get_or sets s [])) || admitted (masked_key st.group_by s)) && masks_ok st admitted k (drop (s + 1) sets)) (add-one s)
      ∙ sym (at_drop_more (masks_ok st admitted s) sets s [] l)
      ∙ so_far

  pub kept_more : all_masked (get_or sets s []) ≡ false → masks_ok st admitted (s + 1) (drop (s + 1) sets) ≡ masks_ok st admitted 0 sets
  kept_more e = here true (or_left _ _ (not_from_false _ e))

  pub admitted_more : admitted (masked_key st.group_by s) ≡ true
      → masks_ok st admitted (s + 1) (drop (s + 1) sets) ≡ masks_ok st admitted 0 sets
  admitted_more e = here true (or_right _ _ e)

  pub refused_here : all_masked (get_or sets s []) ≡ true → admitted (masked_key st.group_by s) ≡ false → false ≡ masks_ok st admitted 0 sets
  refused_here m e = here false (or_from _ _ (not_from_true _ m) e)
