-- The keys of a row table, by the vector that holds them and the map of their places.
use Rattle.std.specs.Prelude.{◌≡◌, ℕ, ◌-◌, ◌≤◌, List, [], ◌∷◌, ◌++◌, length, take, drop, Some, vec_len}
use Rattle.std.specs.HashMap.{HashMap, Updates}
use Rattle.std.proofs.Common.{sym, ap, ◌∙◌, subst, arith, BuildHasherDefault, FoldHasher}
use Rattle.std.proofs.lemmas.List.{take_all}
use Rattle.cells.specs.Rows.{CellOf}
use Rattle.cells.specs.Emits.{left, dropped}
use Rattle.cells.specs.EmitsLemmas.{left-drop, shifted}
use Rattle.cells.specs.declared.emit_to.EmitTo.{EmitTo}
use Rattle.group_values.specs.Places.{key_eq, Indexed}
use Rattle.group_values.specs.Rows.{row_keys}
use Rattle.group_values.specs.Tables.{Absent}
use Rattle.group_values.specs.declared.row_table.GroupValuesRows.{GroupValuesRows}
use Rattle.group_values.specs.PlacesLemmas.{indexed_push}

pub row_length : (t : GroupValuesRows) → length (row_keys t) ≡ vec_len t.keys
row_length t = sym t.keys.ok.0

pub row_bounded : (t : GroupValuesRows) → length (row_keys t) ≤ 512
row_bounded t = omega (arith, row_length t, t.room.0)

-- a key that is pushed is found where it stands, and each other where it stood
pub row_pushed : (t : GroupValuesRows) (more : List (List CellOf)) (k : List CellOf) (n : ℕ) (places : HashMap (List CellOf) ℕ (BuildHasherDefault FoldHasher)) → more ≡ row_keys t ++ k ∷ []
    → n ≡ vec_len t.keys → Absent (row_keys t) k → Updates key_eq t.places places k (Some n) → Indexed more places
row_pushed t more k n places is last absent up =
    rw is (indexed_push (row_keys t) k t.places places t.indexed absent (subst (λ (m : ℕ). Updates key_eq t.places places k (Some m)) (last ∙ sym (row_length t)) up))

pub row_emitted : (e : EmitTo) (ks rotated cut : List (List CellOf)) (held count : ℕ) → held ≡ length ks → count ≡ dropped e held
    → rotated ≡ drop count ks ++ take count ks → cut ≡ take (held - count) rotated → cut ≡ left e ks
row_emitted e ks rotated cut held count h d r t =
    t ∙ ap (take (held - count)) r
    ∙ shifted e ks held count (omega arith) d
    ∙ ap (drop count) (take_all held ks (omega arith))
    ∙ ap (λ (n : ℕ). drop n ks) (d ∙ ap (dropped e) h)
    ∙ sym (left-drop e ks)
