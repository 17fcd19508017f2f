-- How wide keys are, and where the id of the set stands in them.
use Rattle.std.proofs.Common.{◌≡◌, ℕ, suc, Bool, true, false, cond, List, [], ◌∷◌, length, get_or, drop, replicate, pos, Some, None, refl, ap, arith}
use Rattle.std.proofs.lemmas.List.{length-append, length-replicate, drop_at}
use Rattle.cells.specs.Rows.{CellOf}
use Rattle.group_by.specs.Groupings.{GroupBy, masked_cells, id_cells, masked_key}
use Rattle.group_by.specs.Sets.{ids}
use Rattle.model.specs.Setups.{Settings, key_width, row_key}

masked_length : (columns : List ℕ) (marks : List Bool) (row : List CellOf) → length (masked_cells columns marks row) ≡ length columns
masked_length [] marks row = refl
masked_length (c ∷ columns) [] row = ap suc (masked_length columns [] row)
masked_length (c ∷ columns) (m ∷ marks) row = ap suc (masked_length columns marks row)

id_length : (gb : GroupBy) (s : ℕ) → length (id_cells gb s) ≡ cond gb.grouped 1 0
id_length gb s = go gb.grouped
  where
    go : (b : Bool) → length (cond b (Some (get_or (ids gb.sets) s (pos 0)) ∷ []) []) ≡ cond b 1 0
    go true = refl
    go false = refl

module _ (st : Settings) (s : ℕ) where
  pub key_length : (row : List CellOf) → length (row_key st s row) ≡ key_width st
  key_length row =
      let cells : List CellOf = masked_cells st.group_by.columns (get_or st.group_by.sets s []) row in
      omega (arith, length-append cells (id_cells st.group_by s), masked_length st.group_by.columns (get_or st.group_by.sets s []) row, id_length st.group_by s)

  pub masked_key-length : length (masked_key st.group_by s) ≡ key_width st
  masked_key-length =
      let n : ℕ = length st.group_by.columns in
      let cells : List CellOf = replicate n None in
      let long : length cells ≡ n = length-replicate n None in
      omega (arith, length-append cells (id_cells st.group_by s), id_length st.group_by s)

  -- the id stands behind the columns
  pub key_id : (row : List CellOf) → drop (length st.group_by.columns) (row_key st s row) ≡ id_cells st.group_by s
  key_id row =
      drop_at (masked_cells st.group_by.columns (get_or st.group_by.sets s []) row) (id_cells st.group_by s) (length st.group_by.columns)
      (masked_length st.group_by.columns (get_or st.group_by.sets s []) row)
