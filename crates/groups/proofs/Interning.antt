-- The rows of a batch are interned one after the other.
use Rattle.std.proofs.Common.{◌≡◌, ℕ, ◌+◌, ◌<◌, ◌≤◌, Bool, List, [], ◌∷◌, ◌++◌, length, get_or, take, Option, unwrap_or, sym, refl, ap, ◌∙◌, arith}
use Rattle.std.proofs.lemmas.List.{take_more, take_all}
use Rattle.cells.specs.Rows.{CellOf}
use Rattle.group_values.specs.Tables.{interned, placed}
use Rattle.model.specs.Machine.{interned_all, placed_all}

module _ (admitted : List CellOf → Bool) where
  interned_all-push : (keys ks : List (List CellOf)) (k : List CellOf) → interned_all admitted keys (ks ++ k ∷ []) ≡ interned admitted (interned_all admitted keys ks) k
  interned_all-push keys [] k = refl
  interned_all-push keys (x ∷ ks) k = interned_all-push (interned admitted keys x) ks k

  placed_all-push : (keys ks : List (List CellOf)) (k : List CellOf)
      → placed_all admitted keys (ks ++ k ∷ []) ≡ placed_all admitted keys ks ++ unwrap_or (placed admitted (interned_all admitted keys ks) k) 512 ∷ []
  placed_all-push keys [] k = refl
  placed_all-push keys (x ∷ ks) k = ap (λ (ps : List ℕ). unwrap_or (placed admitted keys x) 512 ∷ ps) (placed_all-push (interned admitted keys x) ks k)

-- what the loop has made of the first i keys of ks: the table's keys, the keys kept and the places kept
pub record Interned (admitted : List CellOf → Bool) (before : List (List CellOf)) (ks : List (List CellOf)) (i : ℕ)
    (table : List (List CellOf)) (kept : List (List CellOf)) (places : List ℕ) : Type 0 where
  pub keys : table ≡ interned_all admitted before (take i ks)
  pub keeps : kept ≡ take i ks
  pub places_are : places ≡ placed_all admitted before (take i ks)

module _ (admitted : List CellOf → Bool) (before ks : List (List CellOf)) where
  module _ (i : ℕ) (table : List (List CellOf)) (kept : List (List CellOf)) (places : List ℕ) (so_far : Interned admitted before ks i table kept places) where
    pub interned-more : (key : List CellOf) (table' : List (List CellOf)) (o : Option ℕ) (kept' : List (List CellOf)) (place : ℕ) (places' : List ℕ) → i < length ks
        → key ≡ get_or ks i [] → table' ≡ interned admitted table key → o ≡ placed admitted table key
        → place ≡ unwrap_or o 512 → kept' ≡ kept ++ key ∷ [] → places' ≡ places ++ place ∷ []
        → Interned admitted before ks (i + 1) table' kept' places'
    interned-more key table' o kept' place places' l at entered found given kept-is places_is =
        let step : take i ks ++ key ∷ [] ≡ take (i + 1) ks = ap (λ (k : List CellOf). take i ks ++ k ∷ []) at ∙ sym (take_more ks i [] l) in
        record {
          keys =
              entered ∙ ap (λ (t : List (List CellOf)). interned admitted t key) so_far.keys
              ∙ sym (interned_all-push admitted before (take i ks) key)
              ∙ ap (interned_all admitted before) step;
          keeps =
              kept-is
              ∙ ap (λ (xs : List (List CellOf)). xs ++ key ∷ []) so_far.keeps ∙ step;
          places_are =
              places_is
              ∙ ap (λ (p : ℕ). places ++ p ∷ []) (given ∙ ap (λ (x : Option ℕ). unwrap_or x 512) (found ∙ ap (λ (t : List (List CellOf)). placed admitted t key) so_far.keys))
              ∙ ap (λ (ps : List ℕ). ps ++ unwrap_or (placed admitted (interned_all admitted before (take i ks)) key) 512 ∷ []) so_far.places_are
              ∙ sym (placed_all-push admitted before (take i ks) key)
              ∙ ap (placed_all admitted before) step;
        }

    pub interned-all : length ks ≤ i → Interned admitted before ks (length ks) table kept places
    interned-all l =
        let whole : take i ks ≡ take (length ks) ks = take_all i ks l ∙ sym (take_all (length ks) ks (omega arith)) in
        record {
          keys = so_far.keys ∙ ap (interned_all admitted before) whole;
          keeps = so_far.keeps ∙ whole;
          places_are = so_far.places_are ∙ ap (placed_all admitted before) whole;
        }
