-- The keys that a table holds, and what it is to intern one more. Assumes nothing.
use Rattle.std.specs.Prelude.{◌≡◌, ℕ, suc, ◌<◌, Bool, true, cond, ◌&&◌, List, [], ◌∷◌, ◌++◌, length, Some, None, Option, ◌≢◌, nat_lt, slice_index_or}
use Rattle.cells.specs.Rows.{CellOf}
use Rattle.cells.specs.Same.{same_key}

-- the place of the first equal key, or how many keys there are
abbrev pub place_of : List (List CellOf) → List CellOf → ℕ
place_of [] key = 0
place_of (k ∷ keys) key = cond (same_key k key) 0 (suc (place_of keys key))

abbrev pub holds : List (List CellOf) → List CellOf → Bool
holds keys key = nat_lt (place_of keys key) (length keys)

-- whether a key that is not held is taken in
abbrev pub enters : (List CellOf → Bool) → List (List CellOf) → List CellOf → Bool
enters admitted keys key = admitted key && nat_lt (length keys) 512

-- the keys once a key is interned: a held one changes nothing, and one that does not enter stays out
abbrev pub interned : (List CellOf → Bool) → List (List CellOf) → List CellOf → List (List CellOf)
interned admitted keys key = cond (holds keys key) keys (cond (enters admitted keys key) (keys ++ key ∷ []) keys)

-- the place that a key is given
abbrev pub placed : (List CellOf → Bool) → List (List CellOf) → List CellOf → Option ℕ
placed admitted keys key =
    cond (holds keys key) (Some (place_of keys key)) (cond (enters admitted keys key) (Some (length keys)) None)

-- no two places hold one key
abbrev pub Distinct : List (List CellOf) → Type 0
Distinct keys = (i j : ℕ) → i < j → j < length keys → slice_index_or keys i [] ≢ slice_index_or keys j []

-- no place holds the key
abbrev pub Absent : List (List CellOf) → List CellOf → Type 0
Absent keys key = (q : ℕ) → q < length keys → slice_index_or keys q [] ≢ key

-- each key held is admitted
abbrev pub Admitted : (List CellOf → Bool) → List (List CellOf) → Type 0
Admitted admitted keys = (i : ℕ) → i < length keys → admitted (slice_index_or keys i []) ≡ true
