-- How many elements of a list equal one value, and when no two are equal. Assumes nothing.
use Rattle.std.specs.Prelude.{◌≡◌, ℕ, ◌<◌, Bool, List, length, count_by, ◌≢◌, slice_index_or}

-- n elements of xs equal x, by the equality E
abbrev pub Counts : {K : Type 0} → (K → K → Bool) → List K → K → ℕ → Type 0
Counts E xs x n = n ≡ count_by (λ y. E y x) xs

-- no two places hold the same
abbrev pub Distinct : {X : Type 0} → List X → Type 0
Distinct {X} xs = (i j : ℕ) (d : X) → i < j → j < length xs → slice_index_or xs i d ≢ slice_index_or xs j d
