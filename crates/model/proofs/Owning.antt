-- Keys of different sets never meet, so that a key's own states are the same set by set as row by row.
use Rattle.std.proofs.Common.{◌≡◌, ℕ, zero, suc, ◌+◌, ◌<◌, ◌≤◌, Bool, true, false, cond, List, [], ◌∷◌, ◌++◌, length, drop, sym, refl, ap, ◌∙◌, inl, inr, append_assoc, arith}
use Rattle.std.proofs.lemmas.Bool.{cases_Bool, cond-false, both_ways}
use Rattle.cells.specs.Rows.{CellOf}
use Rattle.cells.specs.Same.{same_key}
use Rattle.cells.proofs.Same.{key_decides}
use Rattle.group_by.specs.Groupings.{GroupBy, id_cells}
use Rattle.model.specs.Setups.{Setup, num_sets, row_key, own}
use Rattle.model.specs.Law.{states_held, own_from, owns}
use Rattle.model.proofs.Cases.{not_same}
use Rattle.model.proofs.Totals.{held_append}
use Rattle.model.proofs.Feeding.{own_pairs}
use Rattle.model.proofs.Absorbing.{set_pairs}
use Rattle.model.proofs.Keys.{key_id}

-- no two sets have the same id cells
abbrev pub SetsApart : {S : Type 0} → Setup S → Type 0
SetsApart u = (i j : ℕ) → i < j → j < num_sets u.settings → id_cells u.settings.group_by i ≡ id_cells u.settings.group_by j → ⊥

module _ {S : Type 0} (u : Setup S) (k : List CellOf) where
  pub owns-append : (xs ys : List (List CellOf)) → owns u k (xs ++ ys) ≡ owns u k xs ++ owns u k ys
  owns-append [] ys = refl
  owns-append (x ∷ xs) ys =
      ap (λ (ss : List S). own_from u k x 0 (num_sets u.settings) ++ ss) (owns-append xs ys)
      ∙ sym (append_assoc (own_from u k x 0 (num_sets u.settings)) (owns u k xs) (owns u k ys))

  -- row by row, for n sets from the s-th on
  abbrev owns_from : ℕ → ℕ → List (List CellOf) → List S
  owns_from s n [] = []
  owns_from s n (row ∷ rows) = own_from u k row s n ++ owns_from s n rows

  owns_from_all : (rows : List (List CellOf)) → owns_from 0 (num_sets u.settings) rows ≡ owns u k rows
  owns_from_all [] = refl
  owns_from_all (row ∷ rows) = ap (λ (ss : List S). own_from u k row 0 (num_sets u.settings) ++ ss) (owns_from_all rows)

  own_from-none : (row : List CellOf) (s n : ℕ) → ((i : ℕ) → s ≤ i → i < s + n → row_key u.settings i row ≡ k → ⊥) → own_from u k row s n ≡ []
  own_from-none row s zero never = refl
  own_from-none row s (suc n) never =
      cond-false (same_key (row_key u.settings s row) k) (own u row ∷ own_from u k row (s + 1) n) (own_from u k row (s + 1) n)
      (not_same (row_key u.settings s row) k (never s (omega arith) (omega arith)))
      ∙ own_from-none row (s + 1) n (λ i low high. never i (omega arith) (omega arith))

  -- the later sets never have the key
  only_here : (s n : ℕ) → ((row : List CellOf) → own_from u k row (s + 1) n ≡ []) → (rows : List (List CellOf))
      → states_held u k (own_pairs u s rows) ++ owns_from (s + 1) n rows ≡ owns_from s (suc n) rows
  only_here s n none [] = refl
  only_here s n none (row ∷ rows) = go (same_key (row_key u.settings s row) k) (only_here s n none rows)
    where
      go : (b : Bool) → states_held u k (own_pairs u s rows) ++ owns_from (s + 1) n rows ≡ owns_from s (suc n) rows
          → cond b (own u row ∷ states_held u k (own_pairs u s rows)) (states_held u k (own_pairs u s rows)) ++ (own_from u k row (s + 1) n ++ owns_from (s + 1) n rows)
          ≡ cond b (own u row ∷ own_from u k row (s + 1) n) (own_from u k row (s + 1) n) ++ owns_from s (suc n) rows
      go true ih =
          ap (λ (ss : List S). (own u row ∷ states_held u k (own_pairs u s rows)) ++ (ss ++ owns_from (s + 1) n rows)) (none row)
          ∙ ap (λ (ss : List S). own u row ∷ ss) ih
          ∙ ap (λ (ss : List S). (own u row ∷ ss) ++ owns_from s (suc n) rows) (sym (none row))
      go false ih =
          ap (λ (ss : List S). states_held u k (own_pairs u s rows) ++ (ss ++ owns_from (s + 1) n rows)) (none row)
          ∙ ih
          ∙ ap (λ (ss : List S). ss ++ owns_from s (suc n) rows) (sym (none row))

  -- this set never has the key
  module _ (s : ℕ) (other : (row : List CellOf) → same_key (row_key u.settings s row) k ≡ false) where
    none_here : (rows : List (List CellOf)) → states_held u k (own_pairs u s rows) ≡ []
    none_here [] = refl
    none_here (row ∷ rows) =
        cond-false (same_key (row_key u.settings s row) k) (own u row ∷ states_held u k (own_pairs u s rows)) (states_held u k (own_pairs u s rows)) (other row)
        ∙ none_here rows

    all_later : (n : ℕ) (rows : List (List CellOf)) → owns_from (s + 1) n rows ≡ owns_from s (suc n) rows
    all_later n [] = refl
    all_later n (row ∷ rows) =
        ap (λ (ss : List S). own_from u k row (s + 1) n ++ ss) (all_later n rows)
        ∙ ap (λ (ss : List S). ss ++ owns_from s (suc n) rows)
        (sym (cond-false (same_key (row_key u.settings s row) k) (own u row ∷ own_from u k row (s + 1) n) (own_from u k row (s + 1) n) (other row)))

  owns_from_none : (s : ℕ) (rows : List (List CellOf)) → [] ≡ owns_from s 0 rows
  owns_from_none s [] = refl
  owns_from_none s (row ∷ rows) = owns_from_none s rows

  module _ (apart : SetsApart u) where
    set_by_set : (n s : ℕ) → s + n ≤ num_sets u.settings → (rows : List (List CellOf))
        → states_held u k (set_pairs u s n rows) ≡ owns_from s n rows
    set_by_set zero s h rows = owns_from_none s rows
    set_by_set (suc n) s h rows =
        held_append u k (own_pairs u s rows) (set_pairs u (s + 1) n rows)
        ∙ ap (λ (ss : List S). states_held u k (own_pairs u s rows) ++ ss) (set_by_set n (s + 1) (omega arith) rows)
        ∙ elim (cases_Bool (same_key (drop K k) (id_cells gb s))) [
          | inl e ↦ only_here s n (λ row. own_from-none row (s + 1) n (λ i low high f. apart s i (omega arith) (omega arith) (sym ((key_decides (drop K k) (id_cells gb s)).0 e) ∙ ap (drop K) (sym f) ∙ key_id u.settings i row))) rows
          | inr e ↦
              let other : (row : List CellOf) → same_key (row_key u.settings s row) k ≡ false =
              λ row. not_same (row_key u.settings s row) k (λ f. both_ways (same_key (drop K k) (id_cells gb s)) e ((key_decides (drop K k) (id_cells gb s)).1 (ap (drop K) (sym f) ∙ key_id u.settings s row))) in
              ap (λ (ss : List S). ss ++ owns_from (s + 1) n rows) (none_here s other rows) ∙ all_later s other n rows
        ]
      where
        K : ℕ
        K = length u.settings.group_by.columns

        gb : GroupBy
        gb = u.settings.group_by

    pub owns-by_set : (rows : List (List CellOf)) → states_held u k (set_pairs u 0 (num_sets u.settings) rows) ≡ owns u k rows
    owns-by_set rows = set_by_set (num_sets u.settings) 0 (omega arith) rows ∙ owns_from_all rows
