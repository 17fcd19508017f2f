-- What settings that passed their questions say: how many sets there are, and that their keys differ.
use Rattle.std.proofs.Common.{◌≡◌, ℕ, suc, ◌+◌, ◌<◌, ◌≤◌, Bool, true, false, not, ◌&&◌, ◌||◌, List, [], ◌∷◌, ◌++◌, length, get_or, drop, replicate, pos, Some, None, sym, refl, ap, ◌∙◌, subst, inl, inr, true≢false, append_assoc, append-nil, add-one, arith}
use Rattle.std.specs.List.{AllByRecursion as All}
use Rattle.std.proofs.lemmas.List.{drop_at}
use Rattle.std.proofs.lemmas.List.FromFn.{length-map-range_with_len}
use Rattle.std.proofs.lemmas.Bool.{and_parts, or_cases, not-true, cond-true, cond-false, cond_both, cases_Bool, cases_order}
use Rattle.group_by.specs.Groupings.{GroupBy, id_cells, masked_key}
use Rattle.group_by.specs.Sets.{ids, id_at}
use Rattle.order.specs.Orders.{Mode, linear, sorted, partially}
use Rattle.model.specs.Setups.{Setup, num_sets}
use Rattle.model.specs.Questions.{all_masked, masks_ok, order_ok_in}
use Rattle.model.specs.Machine.{grand_keys_from, grand_keys, interned_all}
use Rattle.model.specs.Law.{Sensible}
use Rattle.model.proofs.Asked.{order_asked, plain_set, masks_asked, several, over}
use Rattle.model.proofs.Gathering.{Cells, in_right, lacks_in, Lacks, Once, added_new, gathered, interned-all}
use Rattle.model.proofs.Batches.{Wide, masked_wide}
use Rattle.model.proofs.Emitting.{Grand}

-- keys that stand once are gathered as they are
gathered_once_each : (xs ks : List Cells) → Once (xs ++ ks) → gathered xs ks ≡ xs ++ ks
gathered_once_each xs [] o = sym (append-nil xs)
gathered_once_each xs (k ∷ ks) o =
    let regroup : (xs ++ k ∷ []) ++ ks ≡ xs ++ k ∷ ks = append_assoc xs (k ∷ []) ks in
    ap (λ (ys : List Cells). gathered ys ks) (added_new xs k (lacking xs k ks o))
    ∙ gathered_once_each (xs ++ k ∷ []) ks (subst Once (sym regroup) o)
    ∙ regroup
  where
    lacking : (xs : List Cells) (k : Cells) (ks : List Cells) → Once (xs ++ k ∷ ks) → Lacks xs k
    lacking [] k ks o = tt
    lacking (x ∷ xs) k ks o = (λ e. lacks_in (xs ++ k ∷ ks) x o.0 (in_right x xs (k ∷ ks) (inl (sym e))), lacking xs k ks o.1)

module _ {S : Type 0} (u : Setup S) (sensible : Sensible u) where
  abbrev gb : GroupBy
  gb = u.settings.group_by

  -- a declared order has one set
  pub one_set_lem : (u.settings.order ≡ linear → ⊥) → num_sets u.settings ≡ 1
  one_set_lem other = go u.settings.order other (order_asked u true sensible.asked)
    where
      go : (mode : Mode) → (mode ≡ linear → ⊥) → order_ok_in u.settings mode ≡ true → num_sets u.settings ≡ 1
      go linear n ok = absurd (n refl)
      go sorted n ok = plain_set u true sensible.asked (not-true gb.grouped ok)
      go (partially positions) n ok =
          plain_set u true sensible.asked (not-true gb.grouped (and_parts (not gb.grouped) _ (and_parts (not gb.grouped && _) _ ok).0).0)

  module _ (grouped : gb.grouped ≡ true) where
    ids-apart : (s t : ℕ) → s < t → t < length gb.sets → id_cells gb s ≡ id_cells gb t → ⊥
    ids-apart s t l h e =
        let shown : (i : ℕ) → id_cells gb i ≡ Some (get_or (ids gb.sets) i (pos 0)) ∷ [] = λ i. cond-true gb.grouped _ _ grouped in
        let cells : Some (get_or (ids gb.sets) s (pos 0)) ∷ [] ≡ Some (get_or (ids gb.sets) t (pos 0)) ∷ [] =
        sym (shown s) ∙ e ∙ shown t in
        let same : get_or (ids gb.sets) s (pos 0) ≡ get_or (ids gb.sets) t (pos 0) = cc in
        let long : length (ids gb.sets) ≡ length gb.sets = length-map-range_with_len (id_at gb.sets) 0 (length gb.sets) in
        sensible.numbered grouped (length gb.columns) (over u true sensible.asked grouped) s t (pos 0) l (omega arith) same

  pub some_sets : 1 ≤ num_sets u.settings
  some_sets = elim (cases_Bool gb.grouped) [ inl e ↦ (several u true sensible.asked e).0 | inr e ↦ omega (arith, plain_set u true sensible.asked e) ]

  -- a key tells its set
  pub sets_apart : (s t : ℕ) (a b : Cells) → s < num_sets u.settings → t < num_sets u.settings → length a ≡ length b
      → a ++ id_cells gb s ≡ b ++ id_cells gb t → s ≡ t
  sets_apart s t a b l h long e = elim (cases_Bool gb.grouped) [
    | inl grouped ↦ elim (cases_order s t) [
      | inl same ↦ same
      | inr (inl less) ↦ absurd (ids-apart grouped s t less h cells)
      | inr (inr more) ↦ absurd (ids-apart grouped t s more l (sym cells))
    ]
    | inr plain ↦ omega (arith, plain_set u true sensible.asked plain)
  ]
    where
      cells : id_cells gb s ≡ id_cells gb t
      cells = sym (drop_at a (id_cells gb s) (length a) refl) ∙ ap (drop (length a)) e ∙ drop_at b (id_cells gb t) (length a) (sym long)

  -- ---- the grand totals' keys

  masks_in : (s : ℕ) (sets : List (List Bool)) → masks_ok u.settings u.admitted s sets ≡ true
      → All (λ k. u.admitted k ≡ true) (grand_keys_from u s sets)
  masks_in s [] e = tt
  masks_in s (marks ∷ sets) e =
      let parts = and_parts (not (all_masked marks) || u.admitted (masked_key gb s)) (masks_ok u.settings u.admitted (suc s) sets) e in
      let rest = masks_in (s + 1) sets (ap (λ (n : ℕ). masks_ok u.settings u.admitted n sets) (add-one s) ∙ parts.1) in
      cond_both (all_masked marks) _ _ (λ (ks : List Cells). All (λ k. u.admitted k ≡ true) ks)
      (λ m. (
        elim (or_cases (not (all_masked marks)) (u.admitted (masked_key gb s)) parts.0) [
          | inl n ↦ absurd (true≢false (sym m ∙ not-true (all_masked marks) n))
          | inr a ↦ a
        ],
        rest,
      ))
      (λ _. rest)

  grand_few : (s : ℕ) (sets : List (List Bool)) → length (grand_keys_from u s sets) ≤ length sets
  grand_few s [] = omega arith
  grand_few s (marks ∷ sets) =
      cond_both (all_masked marks) _ _ (λ (ks : List Cells). length ks ≤ suc (length sets))
      (λ _. omega (arith, grand_few (s + 1) sets)) (λ _. omega (arith, grand_few (s + 1) sets))

  grand_wide : (s : ℕ) (sets : List (List Bool)) → All (Wide u) (grand_keys_from u s sets)
  grand_wide s [] = tt
  grand_wide s (marks ∷ sets) =
      cond_both (all_masked marks) _ _ (All (Wide u)) (λ _. (masked_wide u s, grand_wide (s + 1) sets)) (λ _. grand_wide (s + 1) sets)

  grand_later : (t s : ℕ) (sets : List (List Bool)) → t < s → s + length sets ≤ num_sets u.settings
      → Lacks (grand_keys_from u s sets) (masked_key gb t)
  grand_later t s [] l h = tt
  grand_later t s (marks ∷ sets) l h =
      let rest = grand_later t (s + 1) sets (omega arith) (omega arith) in
      let blank : Cells = replicate (length gb.columns) None in
      cond_both (all_masked marks) _ _ (λ (ks : List Cells). Lacks ks (masked_key gb t))
      (λ _. (λ e. let same = sets_apart s t blank blank (omega arith) (omega arith) refl e in omega arith, rest)) (λ _. rest)

  grand_once : (s : ℕ) (sets : List (List Bool)) → s + length sets ≤ num_sets u.settings → Once (grand_keys_from u s sets)
  grand_once s [] h = tt
  grand_once s (marks ∷ sets) h =
      let rest = grand_once (s + 1) sets (omega arith) in
      cond_both (all_masked marks) _ _ Once (λ _. (grand_later s (s + 1) sets (omega arith) (omega arith), rest)) (λ _. rest)

  pub grand : Grand u
  grand = go gb.grouped refl
    where
      keys : List Cells
      keys = grand_keys_from u 0 gb.sets

      go : (b : Bool) → gb.grouped ≡ b → Grand u
      go true e =
          let is : grand_keys u ≡ keys = cond-true gb.grouped keys [] e in
          record {
            interns =
                ap (interned_all u.admitted []) is
                ∙ (interned-all u.admitted [] keys (masks_in 0 gb.sets (masks_asked u true sensible.asked e))
                (omega (arith, grand_few 0 gb.sets, (several u true sensible.asked e).1))).0
                ∙ gathered_once_each [] keys (grand_once 0 gb.sets (omega arith))
                ∙ sym is;
            wide = subst (All (Wide u)) (sym is) (grand_wide 0 gb.sets);
          }
      go false e =
          let is : grand_keys u ≡ [] = cond-false gb.grouped keys [] e in
          record {
            interns = ap (interned_all u.admitted []) is ∙ sym is;
            wide = subst (All (Wide u)) (sym is) tt;
          }

  pub grand_apart : Once (grand_keys u)
  grand_apart = cond_both gb.grouped (grand_keys_from u 0 gb.sets) [] Once (λ _. grand_once 0 gb.sets (omega arith)) (λ _. tt)
