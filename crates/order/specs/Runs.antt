-- Runs of rows with one sort key. Assumes nothing.
use Rattle.std.specs.Prelude.{◌≡◌, ℕ, suc, ◌-◌, ◌<◌, ◌≤◌, Bool, true, cond, ◌&&◌, List, [], ◌∷◌, map, length, get_or, take, None, ◌≢◌, slice_index_or}
use Rattle.cells.specs.Rows.{CellOf}
use Rattle.cells.specs.Same.{same_key}

-- the cells of a key at the sort positions
abbrev pub sort_key : List ℕ → List CellOf → List CellOf
sort_key positions key = take 7 (map (λ p. get_or key p None) positions)

abbrev pub sort_keys : List ℕ → List (List CellOf) → List (List CellOf)
sort_keys positions keys = map (sort_key positions) keys

abbrev pub all_same : List CellOf → List (List CellOf) → Bool
all_same k [] = true
all_same k (x ∷ xs) = same_key k x && all_same k xs

-- where the last run of equal sort keys begins
abbrev pub last_run : List (List CellOf) → ℕ
last_run [] = 0
last_run (k ∷ ks) = cond (all_same k ks) 0 (suc (last_run ks))

-- what that means: from s on all are equal, and the one before, if there is one, is not
pub record LastRun (ks : List (List CellOf)) (s : ℕ) : Type 0 where
  pub inside : s < length ks
  pub equal : (i : ℕ) → s ≤ i → i < length ks → slice_index_or ks i [] ≡ slice_index_or ks s []
  pub begins : 0 < s → slice_index_or ks (s - 1) [] ≢ slice_index_or ks s []
