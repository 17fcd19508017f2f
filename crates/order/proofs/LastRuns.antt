-- Every list of sort keys but the empty one has one last run, which `last_run` says, and a search from the back finds it.
use Rattle.std.proofs.Common.{◌≡◌, ◌≢◌, Bool, true, false, cond, not, true≢false, ℕ, zero, suc, ◌-◌, ◌<◌, ◌≤◌, List, [], ◌∷◌, length, get_or, sym, refl, ap, ◌∙◌, arith, inl, inr}
use Rattle.std.specs.Option.{option_eq}
use Rattle.std.specs.Ordering.{int_eq}
use Rattle.std.specs.Cmp.Lexicographic.{pointwise}
use Rattle.std.proofs.lemmas.Bool.{not-false, not_from_true, and_parts, cases_lt}
use Rattle.std.proofs.lemmas.List.Recursion.{and_from_places}
use Rattle.cells.specs.Rows.{CellOf}
use Rattle.cells.specs.Same.{same_key}
use Rattle.cells.proofs.Same.{key_decides}
use Rattle.cells.specs.Alike.{cells_decide}
use Rattle.order.specs.Runs.{sort_key, sort_keys, all_same, last_run, LastRun}
use Rattle.order.proofs.SortKeys.{get_or-sort_keys, length-sort_keys}

all_same-at : (k : List CellOf) (ks : List (List CellOf)) → all_same k ks ≡ true → (i : ℕ) → i < length ks → get_or ks i [] ≡ k
all_same-at k [] e i l = absurd (omega arith)
all_same-at k (x ∷ xs) e zero l = sym ((key_decides k x).0 (and_parts (same_key k x) (all_same k xs) e).0)
all_same-at k (x ∷ xs) e (suc i) l = all_same-at k xs (and_parts (same_key k x) (all_same k xs) e).1 i (omega arith)

all_same-from : (k : List CellOf) (ks : List (List CellOf)) → ((i : ℕ) → i < length ks → get_or ks i [] ≡ k) → all_same k ks ≡ true
all_same-from k ks h = and_from_places (all_same k) (same_key k) refl (λ _ _. refl) ks [] (λ i l. (key_decides k _).1 (sym (h i l)))

get_or_after : (k : List CellOf) (ks : List (List CellOf)) (n : ℕ) → 0 < n → get_or (k ∷ ks) n [] ≡ get_or ks (n - 1) []
get_or_after k ks zero p = absurd (omega arith)
get_or_after k ks (suc n) p = let e : n ≡ suc n - 1 = omega arith in ap (λ (j : ℕ). get_or ks j []) e

module _ (k : List CellOf) (ks : List (List CellOf)) where
  later : all_same k ks ≡ false → 0 < length ks
  later e = elim (cases_lt 0 (length ks)) [ inl l ↦ l | inr m ↦ absurd (true≢false (sym (all_same-from k ks (λ i l. absurd (omega arith))) ∙ e)) ]

  run_whole : all_same k ks ≡ true → LastRun (k ∷ ks) 0
  run_whole e = record {
    inside = omega arith;
    equal = λ i. elim i as (λ n. 0 ≤ n → n < suc (length ks) → get_or (k ∷ ks) n [] ≡ k) [
      | zero ↦ λ q l. refl
      | suc j ↦ λ q l. all_same-at k ks e j (omega arith)
    ];
    begins = λ q. absurd (omega arith);
  }

  run_within : all_same k ks ≡ false → LastRun ks (last_run ks) → LastRun (k ∷ ks) (suc (last_run ks))
  run_within e run = record {
    inside = omega (arith, run.inside);
    equal = λ i. elim i as (λ n. suc (last_run ks) ≤ n → n < suc (length ks) → get_or (k ∷ ks) n [] ≡ get_or ks (last_run ks) []) [
      | zero ↦ λ q l. absurd (omega arith)
      | suc j ↦ λ q l. run.equal j (omega arith) (omega arith)
    ];
    begins = λ _ same.
        let i : last_run ks ≡ suc (last_run ks) - 1 = omega arith in
        let before : get_or (k ∷ ks) (last_run ks) [] ≡ get_or ks (last_run ks) [] = ap (λ (n : ℕ). get_or (k ∷ ks) n []) i ∙ same in
        elim (cases_lt 0 (last_run ks)) [
          | inl l ↦ run.begins l (sym (get_or_after k ks (last_run ks) l) ∙ before)
          | inr m ↦
              let z : 0 ≡ last_run ks = omega arith in
              let first : k ≡ get_or ks (last_run ks) [] = ap (λ (n : ℕ). get_or (k ∷ ks) n []) z ∙ before in
              true≢false (sym (all_same-from k ks (λ i l. run.equal i (omega arith) l ∙ sym first)) ∙ e)
        ];
  }

  run_either : (b : Bool) → all_same k ks ≡ b → (0 < length ks → LastRun ks (last_run ks)) → LastRun (k ∷ ks) (cond b 0 (suc (last_run ks)))
  run_either true e rest = run_whole e
  run_either false e rest = run_within e (rest (later e))

-- the run that `last_run` finds
pub last_run-is : (ks : List (List CellOf)) → 0 < length ks → LastRun ks (last_run ks)
last_run-is [] p = absurd (omega arith)
last_run-is (k ∷ ks) p = run_either k ks (all_same k ks) refl (last_run-is ks)

pub one_run : (ks : List (List CellOf)) (s t : ℕ) → LastRun ks s → LastRun ks t → s ≡ t
one_run ks s t p q =
    elim (cases_lt s t) [
      | inl l ↦ absurd (q.begins (omega arith) (p.equal (t - 1) (omega arith) (omega (arith, q.inside)) ∙ sym (p.equal t (omega arith) q.inside)))
      | inr m ↦ elim (cases_lt t s) [
        | inl l ↦ absurd (p.begins (omega arith) (q.equal (s - 1) (omega arith) (omega (arith, p.inside)) ∙ sym (q.equal s (omega arith) p.inside)))
        | inr n ↦ omega arith
      ]
    ]

pub last_run-at : (ks : List (List CellOf)) (s : ℕ) → LastRun ks s → s ≡ last_run ks
last_run-at ks s run = one_run ks s (last_run ks) run (last_run-is ks (omega (arith, run.inside)))

-- what `!=` answers at keys of these cells
abbrev pub differs : List CellOf → List CellOf → Bool
differs xs ys = not (pointwise (option_eq int_eq) xs ys)

-- `last` has the sort key of the last row, and s is the place behind the last row with another
module _ (ps : List ℕ) (keys : List (List CellOf)) (s : ℕ) (last : List CellOf) (some : 0 < length keys) (within : s ≤ length keys)
    (is_last : last ≡ sort_key ps (get_or keys (length keys - 1) last))
    (same : (i : ℕ) → s ≤ i → i < length keys → differs (sort_key ps (get_or keys i last)) last ≡ false)
    (other : 0 < s → differs (sort_key ps (get_or keys (s - 1) last)) last ≡ true) where
  abbrev ks : List (List CellOf)
  ks = sort_keys ps keys

  alike : (i : ℕ) → s ≤ i → i < length keys → get_or ks i [] ≡ last
  alike i p l = get_or-sort_keys ps keys i last l ∙ (cells_decide _ _).0 (not-false _ (same i p l))

  unlike : 0 < s → get_or ks (s - 1) [] ≢ last
  unlike p e =
      true≢false (sym (other p) ∙ not_from_true _ ((cells_decide _ _).1 (sym (get_or-sort_keys ps keys (s - 1) last (omega (arith, within))) ∙ e)))

  inside : s < length keys
  inside = elim (cases_lt s (length keys)) [
    | inl l ↦ l
    | inr m ↦
        let e : length keys - 1 ≡ s - 1 = omega (arith, within) in
        absurd (unlike (omega (arith, some)) (ap (λ (n : ℕ). get_or ks n []) (sym e) ∙ get_or-sort_keys ps keys (length keys - 1) last (omega (arith, some)) ∙ sym is_last))
  ]

  pub run_from_back : LastRun ks s × (last ≡ get_or ks s [])
  run_from_back =
      let n = length-sort_keys ps keys in
      let here = alike s (omega arith) inside in (
        record {
          inside = omega (arith, n, inside);
          equal = λ i p q. alike i p (omega (arith, n)) ∙ sym here;
          begins = λ p e. unlike p (e ∙ here);
        },
        sym here,
      )
