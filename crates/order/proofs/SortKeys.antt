-- A sort key grows cell by cell, and stands at its row.
use Rattle.std.proofs.Common.{◌≡◌, ℕ, ◌+◌, ◌<◌, List, [], ◌∷◌, ◌++◌, map, length, get_or, take, None, sym, ap, ◌∙◌}
use Rattle.std.proofs.lemmas.List.{map_more, get_or-map, length-map}
use Rattle.cells.specs.Rows.{CellOf}
use Rattle.cells.proofs.Pushing.{take_again}
use Rattle.order.specs.Runs.{sort_key, sort_keys}

pub sort_key_more : (positions : List ℕ) (key : List CellOf) (i : ℕ) → i < length positions
    → sort_key (take (i + 1) positions) key ≡ take 7 (sort_key (take i positions) key ++ get_or key (get_or positions i 0) None ∷ [])
sort_key_more positions key i l = ap (take 7) (map_more _ positions i 0 l) ∙ sym (take_again 7 (map _ (take i positions)) _)

-- the sort key of row i
pub get_or-sort_keys : (positions : List ℕ) (keys : List (List CellOf)) (i : ℕ) (d : List CellOf) → i < length keys
    → get_or (sort_keys positions keys) i [] ≡ sort_key positions (get_or keys i d)
get_or-sort_keys positions keys i d l =
    get_or-map (sort_key positions) keys i d [] l

pub length-sort_keys : (positions : List ℕ) (keys : List (List CellOf)) → length (sort_keys positions keys) ≡ length keys
length-sort_keys positions keys = length-map keys (sort_key positions)
