-- Where keys are found: by a map from keys to places. Assumes nothing.
use Rattle.std.specs.Prelude.{◌≡◌, ℕ, ◌+◌, ◌<◌, ◌≤◌, Bool, List, [], length, Some, slice_index_or}
use Rattle.std.specs.Ordering.{int_eq}
use Rattle.std.specs.Option.{option_eq}
use Rattle.std.specs.Cmp.Lexicographic.{pointwise}
use Rattle.std.specs.HashMap.{HashMap, get, hash_map_len, spare}
use Rattle.cells.specs.Rows.{CellOf}

-- what `==` answers at keys
abbrev pub key_eq : List CellOf → List CellOf → Bool
key_eq = pointwise (option_eq int_eq)

-- the map has the key at each place, and at that place alone, and no other key
abbrev pub Indexed : {S : Type 0} → List (List CellOf) → HashMap (List CellOf) ℕ S → Type 0
Indexed keys places =
    ((p : ℕ) → p < length keys → get key_eq places (slice_index_or keys p []) ≡ Some p)
    × ((key : List CellOf) (p : ℕ) → get key_eq places key ≡ Some p → (p < length keys) × (slice_index_or keys p [] ≡ key))

-- the map has as many keys, and room for 512 in all
abbrev pub Roomy : {S : Type 0} → List (List CellOf) → HashMap (List CellOf) ℕ S → Type 0
Roomy keys places = (hash_map_len places ≡ length keys) × (512 ≤ length keys + spare places)
