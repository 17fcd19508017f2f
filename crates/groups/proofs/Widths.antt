-- The keys of few columns are no longer than a key may be, so that none is cut.
use Rattle.std.proofs.Common.{◌≡◌, ℕ, ◌≤◌, Bool, true, false, cond, List, length, take, arith}
use Rattle.std.proofs.lemmas.List.{take_all}
use Rattle.cells.specs.Rows.{CellOf}
use Rattle.group_by.specs.Groupings.{masked_key}
use Rattle.model.specs.Setups.{Settings, key_width, row_key}
use Rattle.model.proofs.Keys.{key_length, masked_key-length}

at_most_one : (b : Bool) → cond b 1 0 ≤ 1
at_most_one true = omega arith
at_most_one false = omega arith

module _ (st : Settings) (s : ℕ) (few : length st.group_by.columns ≤ 6) where
  within : key_width st ≤ 7
  within = omega (arith, few, at_most_one st.group_by.grouped)

  pub whole_key : (row : List CellOf) → take 7 (row_key st s row) ≡ row_key st s row
  whole_key row = take_all 7 (row_key st s row) (omega (arith, key_length st s row, within))

  pub whole_masked : take 7 (masked_key st.group_by s) ≡ masked_key st.group_by s
  whole_masked = take_all 7 (masked_key st.group_by s) (omega (arith, masked_key-length st s, within))
