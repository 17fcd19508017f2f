-- SQL's groups by their keys: each stands once, and has all states of its rows.
use Rattle.std.proofs.Common.{◌≡◌, ℕ, zero, suc, ◌+◌, ◌<◌, ◌≤◌, Bool, true, false, cond, ◌&&◌, ◌⊎◌, List, [], ◌∷◌, ◌++◌, map, length, get_or, sym, refl, ap, ◌∙◌, inl, inr, true≢false, arith}
use Rattle.std.proofs.lemmas.List.{map-append}
use Rattle.std.proofs.ByRecursion.{All-append}
use Rattle.std.proofs.lemmas.Bool.{cond_both, cases_lt}
use Rattle.cells.specs.Same.{same_key}
use Rattle.cells.proofs.Same.{key_decides}
use Rattle.group_by.specs.Groupings.{GroupBy, masked_cells, key_of, masked_key}
use Rattle.model.specs.Setups.{Setup, num_sets, row_key, own}
use Rattle.model.specs.Questions.{all_masked}
use Rattle.model.specs.Machine.{grand_keys_from}
use Rattle.model.specs.Sql.{without, apart, total, states_under, group_row, group_rows_from, group_rows}
use Rattle.model.specs.Law.{own_from, owns, grand_totals, Sensible}
use Rattle.model.proofs.Gathering.{Cells, In, in_map, Once, in_left, in_right, in_parts, lacks_in, lacks_from}
use Rattle.model.proofs.Batches.{batch_keys, in_batch, masked_length}
use Rattle.model.proofs.Passed.{sets_apart}

-- ---- different keys

in_without : (k x : Cells) (xs : List Cells) → In x (without k xs) → In x xs × (x ≡ k → ⊥)
in_without k x [] i = absurd i
in_without k x (y ∷ xs) i = go (same_key y k) refl i (in_without k x xs)
  where
    go : (b : Bool) → same_key y k ≡ b → In x (cond b (without k xs) (y ∷ without k xs))
        → (In x (without k xs) → In x xs × (x ≡ k → ⊥)) → In x (y ∷ xs) × (x ≡ k → ⊥)
    go true e j rest = let r = rest j in (inr r.0, r.1)
    go false e (inl s) rest = (inl s, λ same. true≢false (sym ((key_decides y k).1 (s ∙ same)) ∙ e))
    go false e (inr j) rest = let r = rest j in (inr r.0, r.1)

without_in : (k x : Cells) (xs : List Cells) → In x xs → (x ≡ k → ⊥) → In x (without k xs)
without_in k x [] i other = i
without_in k x (y ∷ xs) i other = go (same_key y k) refl i (λ j. without_in k x xs j other)
  where
    go : (b : Bool) → same_key y k ≡ b → In x (y ∷ xs) → (In x xs → In x (without k xs))
        → In x (cond b (without k xs) (y ∷ without k xs))
    go true e (inl s) rest = absurd (other (sym s ∙ (key_decides y k).0 e))
    go true e (inr j) rest = rest j
    go false e (inl s) rest = inl s
    go false e (inr j) rest = inr (rest j)

without-once : (k : Cells) (xs : List Cells) → Once xs → Once (without k xs)
without-once k [] o = tt
without-once k (y ∷ xs) o =
    cond_both (same_key y k) (without k xs) (y ∷ without k xs) Once (λ _. without-once k xs o.1)
    (λ _. (lacks_from (without k xs) y (λ i. lacks_in xs y o.0 (in_without k y xs i).0), without-once k xs o.1))

apart_once : (ks : List Cells) → Once (apart ks)
apart_once [] = tt
apart_once (k ∷ ks) =
    (lacks_from (without k (apart ks)) k (λ i. (in_without k k (apart ks) i).1 refl), without-once k (apart ks) (apart_once ks))

apart_only : (x : Cells) (ks : List Cells) → In x (apart ks) → In x ks
apart_only x [] i = i
apart_only x (k ∷ ks) (inl e) = inl e
apart_only x (k ∷ ks) (inr i) = inr (apart_only x ks (in_without k x (apart ks) i).0)

apart_has : (x : Cells) (ks : List Cells) → In x ks → In x (apart ks)
apart_has x [] i = i
apart_has x (k ∷ ks) i = go (same_key k x) refl i (apart_has x ks)
  where
    go : (b : Bool) → same_key k x ≡ b → In x (k ∷ ks) → (In x ks → In x (apart ks)) → In x (apart (k ∷ ks))
    go true e j rest = inl ((key_decides k x).0 e)
    go false e (inl s) rest = inl s
    go false e (inr j) rest = inr (without_in k x (apart ks) (rest j) (λ same. true≢false (sym ((key_decides k x).1 (sym same)) ∙ e)))

once_append : {X : Type 0} (xs ys : List X) → Once xs → Once ys → ((x : X) → In x xs → In x ys → ⊥) → Once (xs ++ ys)
once_append [] ys o p other = p
once_append (x ∷ xs) ys o p other = (
  All-append (λ y. y ≡ x → ⊥) xs ys o.0 (lacks_from ys x (other x (inl refl))),
  once_append xs ys o.1 p (λ z i j. other z (inr i) j),
)

map_same : {X Y : Type 0} (f g : X → Y) (xs : List X) → ((x : X) → In x xs → f x ≡ g x) → map f xs ≡ map g xs
map_same f g [] h = refl
map_same {X} {Y} f g (x ∷ xs) h =
    ap (λ (y : Y). y ∷ map f xs) (h x (inl refl)) ∙ ap (λ (ys : List Y). g x ∷ ys) (map_same f g xs (λ z i. h z (inr i)))

-- ---- the keys of all groups

module _ {S : Type 0} (u : Setup S) where
  -- a key with its whole result
  abbrev pub whole_row : List Cells → Cells → Cells
  whole_row rows k = k ++ u.aggregation.results (total u.aggregation (owns u k rows))

  -- the keys of n sets from the s-th on, each once
  abbrev pub apart_keys : List Cells → ℕ → ℕ → List Cells
  apart_keys rows s zero = []
  apart_keys rows s (suc n) = apart (map (row_key u.settings s) rows) ++ apart_keys rows (s + 1) n

  pub apart_in : (rows : List Cells) (s n : ℕ) (k : Cells) → In k (batch_keys u rows s n) → In k (apart_keys rows s n)
  apart_in rows s zero k i = i
  apart_in rows s (suc n) k i =
      let ks = map (row_key u.settings s) rows in
      elim (in_parts k ks (batch_keys u rows (s + 1) n) i) [
        | inl j ↦ in_left k (apart ks) (apart_keys rows (s + 1) n) (apart_has k ks j)
        | inr j ↦ in_right k (apart ks) (apart_keys rows (s + 1) n) (apart_in rows (s + 1) n k j)
      ]

  pub in_apart : (rows : List Cells) (s n : ℕ) (k : Cells) → In k (apart_keys rows s n) → In k (batch_keys u rows s n)
  in_apart rows s zero k i = i
  in_apart rows s (suc n) k i =
      let ks = map (row_key u.settings s) rows in
      elim (in_parts k (apart ks) (apart_keys rows (s + 1) n) i) [
        | inl j ↦ in_left k ks (batch_keys u rows (s + 1) n) (apart_only k ks j)
        | inr j ↦ in_right k ks (batch_keys u rows (s + 1) n) (in_apart rows (s + 1) n k j)
      ]

module _ {S : Type 0} (u : Setup S) (sensible : Sensible u) where
  abbrev gb : GroupBy
  gb = u.settings.group_by

  -- ---- the states of a key

  -- rows have one key under one set alone
  row_sets : (s t : ℕ) (row other : Cells) → s < num_sets u.settings → t < num_sets u.settings
      → key_of gb s row ≡ key_of gb t other → s ≡ t
  row_sets s t row other l h e =
      let a = masked_cells gb.columns (get_or gb.sets s []) row in
      let b = masked_cells gb.columns (get_or gb.sets t []) other in
      sets_apart u sensible s t a b l h
      (masked_length gb.columns (get_or gb.sets s []) row ∙ sym (masked_length gb.columns (get_or gb.sets t []) other)) e

  -- a key of the s-th set, and of no other
  module _ (s : ℕ) (k : Cells) (alone : (t : ℕ) (row : Cells) → t < num_sets u.settings → key_of gb t row ≡ k → t ≡ s)
      (at : s < num_sets u.settings) where
    own_none : (row : Cells) (t n : ℕ) → s < t → t + n ≤ num_sets u.settings → own_from u k row t n ≡ []
    own_none row t zero l h = refl
    own_none row t (suc n) l h =
        cond_both (same_key (row_key u.settings t row) k) _ _ (λ (ss : List S). ss ≡ [])
        (λ e. let same = alone t row (omega arith) ((key_decides (row_key u.settings t row) k).0 e) in absurd (omega arith))
        (λ _. own_none row (t + 1) n (omega arith) (omega arith))

    own_one : (row : Cells) (t n : ℕ) → t ≤ s → s < t + n → t + n ≤ num_sets u.settings
        → own_from u k row t n ≡ cond (same_key (row_key u.settings s row) k) (own u row ∷ []) []
    own_one row t zero l m h = absurd (omega arith)
    own_one row t (suc n) l m h = go (cases_lt t s) (own_one row (t + 1) n)
      where
        here : t ≡ s → own_from u k row t (suc n) ≡ cond (same_key (row_key u.settings s row) k) (own u row ∷ []) []
        here e =
            ap (λ (ss : List S). cond (same_key (row_key u.settings t row) k) (own u row ∷ ss) ss)
            (own_none row (t + 1) n (omega arith) (omega arith))
            ∙ ap (λ (r : ℕ). cond (same_key (row_key u.settings r row) k) (own u row ∷ []) []) e

        go : (t < s) ⊎ (s ≤ t)
            → (t + 1 ≤ s → s < t + 1 + n → t + 1 + n ≤ num_sets u.settings
            → own_from u k row (t + 1) n ≡ cond (same_key (row_key u.settings s row) k) (own u row ∷ []) [])
            → own_from u k row t (suc n) ≡ cond (same_key (row_key u.settings s row) k) (own u row ∷ []) []
        go (inl less) rest =
            cond_both (same_key (row_key u.settings t row) k) _ _
            (λ (ss : List S). ss ≡ cond (same_key (row_key u.settings s row) k) (own u row ∷ []) [])
            (λ e. let same = alone t row (omega arith) ((key_decides (row_key u.settings t row) k).0 e) in absurd (omega arith))
            (λ _. rest (omega arith) (omega arith) (omega arith))
        go (inr more) rest = here (omega arith)

    states_all : (rows : List Cells) → states_under gb u.aggregation u.settings.exprs s k rows ≡ owns u k rows
    states_all [] = refl
    states_all (row ∷ rows) =
        go (same_key (key_of gb s row) k) (states_all rows)
        ∙ ap (λ (ss : List S). ss ++ owns u k rows) (sym (own_one row 0 (num_sets u.settings) (omega arith) (omega arith) (omega arith)))
      where
        go : (b : Bool) → states_under gb u.aggregation u.settings.exprs s k rows ≡ owns u k rows
            → cond b (own u row ∷ states_under gb u.aggregation u.settings.exprs s k rows)
            (states_under gb u.aggregation u.settings.exprs s k rows) ≡ cond b (own u row ∷ []) [] ++ owns u k rows
        go true e = ap (λ (ss : List S). own u row ∷ ss) e
        go false e = e

  -- ---- all groups

  pub apart_keys_once : (rows : List Cells) (s n : ℕ) → s + n ≤ num_sets u.settings → Once (apart_keys u rows s n)
  apart_keys_once rows s zero h = tt
  apart_keys_once rows s (suc n) h =
      let ks = map (row_key u.settings s) rows in
      once_append (apart ks) (apart_keys u rows (s + 1) n) (apart_once ks) (apart_keys_once rows (s + 1) n (omega arith))
      (λ k i j.
      let one = in_map (row_key u.settings s) k rows (apart_only k ks i) in
      let two = in_batch u rows (s + 1) n k (in_apart u rows (s + 1) n k j) in
      let same : s ≡ two.0 = row_sets s two.0 one.0 two.1 (omega arith) (omega (arith, two.3)) (one.2 ∙ sym two.5) in
      omega (arith, two.2))

  -- SQL's rows are those of the different keys
  rows_from : (row : Cells) (rows : List Cells) (s : ℕ) (sets : List (List Bool)) → s + length sets ≤ num_sets u.settings
      → group_rows_from gb u.aggregation u.settings.exprs s sets (row ∷ rows) ≡ map (whole_row u (row ∷ rows))
      (apart_keys u (row ∷ rows) s (length sets))
  rows_from row rows s [] h = refl
  rows_from row rows s (marks ∷ sets) h =
      let all = row ∷ rows in
      let ks = map (row_key u.settings s) all in
      let here : map (group_row gb u.aggregation u.settings.exprs s all) (apart ks) ≡ map (whole_row u all) (apart ks) =
      map_same (group_row gb u.aggregation u.settings.exprs s all) (whole_row u all) (apart ks) (λ k i.
      let one = in_map (row_key u.settings s) k all (apart_only k ks i) in
      ap (λ (ss : List S). k ++ u.aggregation.results (total u.aggregation ss))
      (states_all s k (λ t other l e. row_sets t s other one.0 l (omega arith) (e ∙ sym one.2)) (omega arith) all)) in
      ap (λ (rs : List Cells). rs ++ group_rows_from gb u.aggregation u.settings.exprs (s + 1) sets all) here
      ∙ ap (λ (rs : List Cells). map (whole_row u all) (apart ks) ++ rs) (rows_from row rows (s + 1) sets (omega arith))
      ∙ sym (map-append (whole_row u all) (apart ks) (apart_keys u all (s + 1) (length sets)))

  pub group-rows : (row : Cells) (rows : List Cells)
      → group_rows gb u.aggregation u.settings.exprs (row ∷ rows) ≡ map (whole_row u (row ∷ rows))
      (apart_keys u (row ∷ rows) 0 (num_sets u.settings))
  group-rows row rows = rows_from row rows 0 gb.sets (omega arith)

  -- where there are no rows, the grand totals
  grand_from : (b : Bool) → gb.grouped ≡ b → (s : ℕ) (sets : List (List Bool))
      → group_rows_from gb u.aggregation u.settings.exprs s sets [] ≡ map (whole_row u []) (cond b (grand_keys_from u s sets) [])
  grand_from true e s [] = refl
  grand_from false e s [] = refl
  grand_from true e s (marks ∷ sets) =
      let row = group_row gb u.aggregation u.settings.exprs s [] in
      let rest = group_rows_from gb u.aggregation u.settings.exprs (s + 1) sets [] in
      ap (λ (g : Bool). map row (cond (g && all_masked marks) (masked_key gb s ∷ []) []) ++ rest) e
      ∙ go (all_masked marks) (grand_from true e (s + 1) sets)
    where
      go : (c : Bool)
          → group_rows_from gb u.aggregation u.settings.exprs (s + 1) sets [] ≡ map (whole_row u []) (grand_keys_from u (s + 1) sets)
          → map (group_row gb u.aggregation u.settings.exprs s []) (cond c (masked_key gb s ∷ []) []) ++ group_rows_from gb
          u.aggregation u.settings.exprs (s + 1) sets []
          ≡ map (whole_row u []) (cond c (masked_key gb s ∷ grand_keys_from u (s + 1) sets) (grand_keys_from u (s + 1) sets))
      go true is = ap (λ (rs : List Cells). whole_row u [] (masked_key gb s) ∷ rs) is
      go false is = is
  grand_from false e s (marks ∷ sets) =
      let row = group_row gb u.aggregation u.settings.exprs s [] in
      let rest = group_rows_from gb u.aggregation u.settings.exprs (s + 1) sets [] in
      ap (λ (g : Bool). map row (cond (g && all_masked marks) (masked_key gb s ∷ []) []) ++ rest) e
      ∙ grand_from false e (s + 1) sets

  pub group_rows_none : group_rows gb u.aggregation u.settings.exprs [] ≡ grand_totals u
  group_rows_none = grand_from gb.grouped refl 0 gb.sets
