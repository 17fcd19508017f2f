-- The keys of a batch, set by set: an accepted batch that is grouped has them gathered.
use Rattle.std.proofs.Common.{◌≡◌, ℕ, zero, suc, ◌+◌, ◌*◌, ◌^◌, ◌<◌, ◌≤◌, Bool, true, false, cond, eqb, ltb, leb, ◌⊎◌, List, [], ◌∷◌, ◌++◌, map, length, get_or, replicate, ℤ, pos, Some, None, Option, sym, refl, ap, ◌∙◌, subst, inl, inr, suc-mul, mul_comm, zero-mul, arith}
use Rattle.std.specs.Option.{option_map}
use Rattle.std.specs.List.{AllByRecursion as All}
use Rattle.std.proofs.lemmas.List.{length-map, length-append, length-replicate}
use Rattle.std.proofs.ByRecursion.{All-append}
use Rattle.std.proofs.lemmas.Bool.{leb-true, cond_both, cases_lt}
use Rattle.cells.specs.Refusals.{Refusal, refusal}
use Rattle.cells.specs.Faults.{sized, first_bad, batch_fault}
use Rattle.cells.specs.Views.{rows_in}
use Rattle.group_by.specs.Sets.{ids}
use Rattle.group_by.specs.Groupings.{GroupBy, masked_cells, id_cells, masked_key}
use Rattle.group_values.specs.Tables.{interned}
use Rattle.model.specs.Setups.{Setup, num_sets, key_width, row_key}
use Rattle.model.specs.Machine.{Groups, Phase, grouping, waiting, bypassing, stopped, Model, count, interned_all, absorbed_set, absorbed_from, absorbed}
use Rattle.model.specs.Steps.{or_else, set_out, key_out, key_fault, room_fault, grouping_fault, total_fault, reading_fault, offer_fault}
use Rattle.model.proofs.Gathering.{Cells, In, in_left, in_right, in_parts, in_map, map-in, gathered, interned-all}

-- ---- the width of a key

pub masked_length : (columns : List ℕ) (marks : List Bool) (row : Cells) → length (masked_cells columns marks row) ≡ length columns
masked_length [] marks row = refl
masked_length (c ∷ columns) [] row = ap suc (masked_length columns [] row)
masked_length (c ∷ columns) (m ∷ marks) row = ap suc (masked_length columns marks row)

id_length : (gb : GroupBy) (s : ℕ) → length (id_cells gb s) ≡ cond gb.grouped 1 0
id_length gb s = go gb.grouped
  where
    go : (b : Bool) → length (cond b (Some (get_or (ids gb.sets) s (pos 0)) ∷ []) []) ≡ cond b 1 0
    go true = refl
    go false = refl

none_from : {X : Type 0} (a b : Option X) → or_else a b ≡ None → (a ≡ None) × (b ≡ None)
none_from None b e = (refl, e)
none_from (Some x) b e = absurd (let z : ◌≡◌ {A = ℕ} 0 1 = cc in omega arith)

mapped_none : {X Y : Type 0} (f : X → Y) (o : Option X) → option_map f o ≡ None → o ≡ None
mapped_none f None e = refl
mapped_none f (Some x) e = absurd (let z : ◌≡◌ {A = ℕ} 0 1 = cc in omega arith)

module _ {S : Type 0} (u : Setup S) where
  abbrev pub Wide : Cells → Type 0
  Wide k = length k ≡ key_width u.settings

  row_wide : (s : ℕ) (row : Cells) → Wide (row_key u.settings s row)
  row_wide s row =
      let gb = u.settings.group_by in
      let marks = get_or gb.sets s [] in
      length-append (masked_cells gb.columns marks row) (id_cells gb s)
      ∙ ap (λ (n : ℕ). n + length (id_cells gb s)) (masked_length gb.columns marks row)
      ∙ ap (λ (n : ℕ). length gb.columns + n) (id_length gb s)

  pub masked_wide : (s : ℕ) → Wide (masked_key u.settings.group_by s)
  masked_wide s =
      let gb = u.settings.group_by in
      let cells : Cells = replicate (length gb.columns) None in
      length-append cells (id_cells gb s)
      ∙ ap (λ (n : ℕ). n + length (id_cells gb s)) (length-replicate (length gb.columns) None)
      ∙ ap (λ (n : ℕ). length gb.columns + n) (id_length gb s)

  -- ---- the keys of a batch

  -- for n sets from the s-th on
  abbrev pub batch_keys : List Cells → ℕ → ℕ → List Cells
  batch_keys rows s zero = []
  batch_keys rows s (suc n) = map (row_key u.settings s) rows ++ batch_keys rows (s + 1) n

  pub no_rows : (s n : ℕ) → batch_keys [] s n ≡ []
  no_rows s zero = refl
  no_rows s (suc n) = no_rows (s + 1) n

  length-batch : (rows : List Cells) (s n : ℕ) → length (batch_keys rows s n) ≡ n * length rows
  length-batch rows s zero = sym (zero-mul (length rows))
  length-batch rows s (suc n) =
      let keys = map (row_key u.settings s) rows in
      omega
      (arith, length-append keys (batch_keys rows (s + 1) n), length-map rows (row_key u.settings s), length-batch rows (s + 1) n, suc-mul n (length rows))

  map-wide : (s : ℕ) (rows : List Cells) → All Wide (map (row_key u.settings s) rows)
  map-wide s [] = tt
  map-wide s (row ∷ rows) = (row_wide s row, map-wide s rows)

  pub batch_wide : (rows : List Cells) (s n : ℕ) → All Wide (batch_keys rows s n)
  batch_wide rows s zero = tt
  batch_wide rows s (suc n) =
      All-append Wide (map (row_key u.settings s) rows) (batch_keys rows (s + 1) n) (map-wide s rows) (batch_wide rows (s + 1) n)

  -- a row's key under one of n sets from the s-th on
  abbrev pub Keyed : List Cells → ℕ → ℕ → Cells → Type 0
  Keyed rows s n k = (t : ℕ) × (row : Cells) × (s ≤ t) × (t < s + n) × In row rows × (row_key u.settings t row ≡ k)

  pub in_batch : (rows : List Cells) (s n : ℕ) (k : Cells) → In k (batch_keys rows s n) → Keyed rows s n k
  in_batch rows s zero k i = absurd i
  in_batch rows s (suc n) k i = go (in_parts k (map (row_key u.settings s) rows) (batch_keys rows (s + 1) n) i) (in_batch rows (s + 1) n k)
    where
      go : In k (map (row_key u.settings s) rows) ⊎ In k (batch_keys rows (s + 1) n)
          → (In k (batch_keys rows (s + 1) n) → Keyed rows (s + 1) n k) → Keyed rows s (suc n) k
      go (inl j) rest = let r = in_map (row_key u.settings s) k rows j in (s, r.0, omega arith, omega arith, r.1, r.2)
      go (inr j) rest = let r = rest j in (r.0, r.1, omega (arith, r.2), omega (arith, r.3), r.4, r.5)

  pub batch_in : (rows : List Cells) (s n : ℕ) (k : Cells) → Keyed rows s n k → In k (batch_keys rows s n)
  batch_in rows s zero k (t, row, a, b, i, is) = absurd (omega arith)
  batch_in rows s (suc n) k (t, row, a, b, i, is) =
      let f = row_key u.settings s in
      elim (cases_lt s t) [
        | inl l ↦ in_right k (map f rows) (batch_keys rows (s + 1) n) (batch_in rows (s + 1) n k (t, row, omega arith, omega arith, i, is))
        | inr l ↦
            let same : t ≡ s = omega arith in
            let here : f row ≡ k = ap (λ (r : ℕ). row_key u.settings r row) (sym same) ∙ is in
            in_left k (map f rows) (batch_keys rows (s + 1) n) (subst (λ (x : Cells). In x (map f rows)) here (map-in f row rows i))
      ]

  -- ---- interning them

  interned_all-append : (keys ks ls : List Cells)
      → interned_all u.admitted keys (ks ++ ls) ≡ interned_all u.admitted (interned_all u.admitted keys ks) ls
  interned_all-append keys [] ls = refl
  interned_all-append keys (k ∷ ks) ls = interned_all-append (interned u.admitted keys k) ks ls

  absorbed-keys : (g : Groups S) (rows : List Cells) (s n : ℕ)
      → (absorbed_from u g rows s n).keys ≡ interned_all u.admitted g.keys (batch_keys rows s n)
  absorbed-keys g rows s zero = refl
  absorbed-keys g rows s (suc n) =
      absorbed-keys (absorbed_set u g rows s) rows (s + 1) n
      ∙ sym (interned_all-append g.keys (map (row_key u.settings s) rows) (batch_keys rows (s + 1) n))

  sets_in : (s n : ℕ) (rows : List Cells) → All (λ row. set_out u row s n ≡ None) rows
      → All (λ k. u.admitted k ≡ true) (batch_keys rows s n)
  sets_in s zero rows a = tt
  sets_in s (suc n) rows a =
      let both = parts rows a in
      All-append (λ k. u.admitted k ≡ true) (map (row_key u.settings s) rows) (batch_keys rows (s + 1) n) both.0
      (sets_in (s + 1) n rows both.1)
    where
      first : (b : Bool) (row : Cells) → cond b (set_out u row (s + 1) n) (Some s) ≡ None
          → (b ≡ true) × (set_out u row (s + 1) n ≡ None)
      first true row e = (refl, e)
      first false row e = absurd (let z : ◌≡◌ {A = ℕ} 0 1 = cc in omega arith)

      parts : (rows : List Cells) → All (λ row. set_out u row s (suc n) ≡ None) rows
          → All (λ k. u.admitted k ≡ true) (map (row_key u.settings s) rows) × All (λ row. set_out u row (s + 1) n ≡ None) rows
      parts [] a = (tt, tt)
      parts (row ∷ rows) a =
          let one = first (u.admitted (row_key u.settings s row)) row a.0 in
          let rest = parts rows a.1 in
          ((one.0, rest.0), (one.1, rest.1))

  rows_in_lem : (i : ℕ) (rows : List Cells) → key_out u i rows ≡ None → All (λ row. set_out u row 0 (num_sets u.settings) ≡ None) rows
  rows_in_lem i [] e = tt
  rows_in_lem i (row ∷ rows) e =
      let both = none_from (option_map (λ s. (i, s)) (set_out u row 0 (num_sets u.settings))) (key_out u (i + 1) rows) e in
      (mapped_none (λ s. (i, s)) (set_out u row 0 (num_sets u.settings)) both.0, rows_in_lem (i + 1) rows both.1)

  -- what an offer that is not refused says of its batch
  pub record Fits (m : Model S) (rows : List Cells) : Type 0 where
    pub admits : All (λ k. u.admitted k ≡ true) (batch_keys rows 0 (num_sets u.settings))
    pub room : count m + length (batch_keys rows 0 (num_sets u.settings)) ≤ 512

  pub fits : (m : Model S) (rows : List Cells) → grouping_fault u grouping m rows ≡ None → Fits m rows
  fits m rows e =
      let both = none_from (key_fault u rows) (room_fault u m rows) e in
      record {
        admits =
            sets_in 0 (num_sets u.settings) rows
            (rows_in_lem 0 rows (mapped_none (λ p. refusal 12 (p.0 ∷ p.1 ∷ [])) (key_out u 0 rows) both.0));
        room =
            let n = num_sets u.settings in
            let most = leb-true (count m + length rows * n) 512 (small (leb (count m + length rows * n) 512) both.1) in
            omega (arith, most, length-batch rows 0 n, mul_comm (length rows) n);
      }
    where
      small : (b : Bool) → cond b None (Some (refusal 13 [])) ≡ None → b ≡ true
      small true e = refl
      small false e = absurd (let z : ◌≡◌ {A = ℕ} 0 1 = cc in omega arith)

  pub absorbed-gathers : (m : Model S) (rows : List Cells) → Fits m rows
      → (absorbed u m.held rows).keys ≡ gathered m.held.keys (batch_keys rows 0 (num_sets u.settings))
  absorbed-gathers m rows fit =
      absorbed-keys m.held rows 0 (num_sets u.settings)
      ∙ (interned-all u.admitted m.held.keys (batch_keys rows 0 (num_sets u.settings)) fit.admits fit.room).0

  -- ---- refusals

  -- no question before an offer refuses it by 14
  abbrev pub Other : Option Refusal → Type 0
  Other None = Unit {0}
  Other (Some e) = eqb e.number 14 ≡ false

  or_other : (a b : Option Refusal) → Other a → Other b → Other (or_else a b)
  or_other None b p q = q
  or_other (Some e) b p q = p

  key_other : (o : Option (ℕ × ℕ)) → Other (option_map (λ p. refusal 12 (p.0 ∷ p.1 ∷ [])) o)
  key_other None = tt
  key_other (Some p) = refl

  reading_other : (p : Phase) (over : Bool) → Other (reading_fault u p over)
  reading_other grouping over = cond_both over _ _ Other (λ _. refl) (λ _. tt)
  reading_other (waiting ws whole) over = cond_both over _ _ Other (λ _. refl) (λ _. refl)
  reading_other bypassing over = cond_both over _ _ Other (λ _. refl) (λ _. tt)
  reading_other stopped over = refl

  grouping-other : (p : Phase) (m : Model S) (rows : List Cells) → Other (grouping_fault u p m rows)
  grouping-other grouping m rows =
      or_other (key_fault u rows) (room_fault u m rows) (key_other (key_out u 0 rows))
      (cond_both (leb (count m + length rows * num_sets u.settings) 512) _ _ Other (λ _. tt) (λ _. refl))
  grouping-other (waiting ws whole) m rows = tt
  grouping-other bypassing m rows = tt
  grouping-other stopped m rows = tt

  batch_other : (C : ℕ) (values : List ℤ) (flags : List ℕ) → Other (batch_fault C values flags)
  batch_other C values flags =
      cond_both (sized C values flags) _ _ Other
      (λ _. cond_both (ltb (first_bad flags) (length flags)) _ _ Other (λ _. refl) (λ _. tt)) (λ _. refl)

  pub offer-other : (m : Model S) (values : List ℤ) (flags : List ℕ) → Other (offer_fault u m values flags)
  offer-other m values flags =
      let rows = rows_in u.settings.columns values flags in
      or_other (reading_fault u m.phase m.ended) _ (reading_other m.phase m.ended)
      (or_other (batch_fault u.settings.columns values flags) _ (batch_other u.settings.columns values flags)
      (or_other (total_fault u m rows) _ (cond_both (leb (m.rows + length rows) (2 ^ 40)) _ _ Other (λ _. tt) (λ _. refl))
      (grouping-other m.phase m rows)))

  -- an offer that passes every question was asked those of its phase
  pub offer-fits : (m : Model S) (values : List ℤ) (flags : List ℕ) → offer_fault u m values flags ≡ None
      → grouping_fault u m.phase m (rows_in u.settings.columns values flags) ≡ None
  offer-fits m values flags e =
      let rows = rows_in u.settings.columns values flags in
      let one = none_from (reading_fault u m.phase m.ended) _ e in
      let two = none_from (batch_fault u.settings.columns values flags) _ one.1 in
      (none_from (total_fault u m rows) (grouping_fault u m.phase m rows) two.1).1
