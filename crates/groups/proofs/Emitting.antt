-- Groups and rows go to wait one after the other.
use Rattle.std.proofs.Common.{◌≡◌, ℕ, zero, suc, ◌+◌, ◌<◌, min, Bool, true, cond, ltb, List, [], ◌∷◌, ◌++◌, length, get_or, take, sym, refl, ap, ◌∙◌, inl, inr, arith}
use Rattle.std.proofs.lemmas.List.{take_more, take_all, take-map, length-map, get_or-map}
use Rattle.std.proofs.lemmas.Bool.{lt-ltb, cases_lt}
use Rattle.cells.specs.Emits.{dropped}
use Rattle.cells.specs.EmitsLemmas.{dropped-le}
use Rattle.cells.specs.declared.emit_to.EmitTo.{EmitTo}
use Rattle.cells.specs.declared.emit_to.EmitTo.TheVariants.{All, First}
use Rattle.cells.specs.Rows.{CellOf}
use Rattle.model.specs.Setups.{Setup, out_row}
use Rattle.model.specs.Machine.{Groups, beside, held_pairs, out_rows, emission}

-- a list that waits holds the first i of xs, and has room
pub record Put {X : Type 0} (xs : List X) (i : ℕ) (ws : List X) (stored : ℕ) : Type 0 where
  pub rows : ws ≡ take i xs
  pub taken : stored ≡ i

pub put_more : {X : Type 0} (xs : List X) (i : ℕ) (ws ws' : List X) (n n' : ℕ) (x d : X) → Put xs i ws n → i < length xs → i < 512 → x ≡ get_or xs i d
    → ws' ≡ cond (ltb n 512) (ws ++ x ∷ []) ws → n' ≡ cond (ltb n 512) (n + 1) n → Put xs (i + 1) ws' n'
put_more {X} xs i ws ws' n n' x d put l few at pushed counted =
    let room : ltb n 512 ≡ true = lt-ltb n 512 (omega (arith, put.taken)) in
    record {
      rows =
          pushed ∙ ap (λ (b : Bool). cond b (ws ++ x ∷ []) ws) room
          ∙ ap (λ (ys : List X). ys ++ x ∷ []) put.rows
          ∙ ap (λ (y : X). take i xs ++ y ∷ []) at
          ∙ sym (take_more xs i d l);
      taken = counted ∙ ap (λ (b : Bool). cond b (n + 1) n) room ∙ ap (λ (k : ℕ). k + 1) put.taken;
    }

take-least : {X : Type 0} (xs : List X) (m n : ℕ) → length xs ≡ n → take (min m n) xs ≡ take m xs
take-least xs m n e =
    elim (cases_lt m n) [
      | inl l ↦ let few : min m n ≡ m = omega arith in ap (λ (k : ℕ). take k xs) few
      | inr l ↦ take_all (min m n) xs (omega (arith, e)) ∙ sym (take_all m xs (omega (arith, e)))
    ]

module _ {S : Type 0} (u : Setup S) where
  length-beside : (ks : List (List CellOf)) (ss : List S) → length (beside u ks ss) ≡ length ks
  length-beside [] ss = refl
  length-beside (k ∷ ks) [] = ap suc (length-beside ks [])
  length-beside (k ∷ ks) (s ∷ ss) = ap suc (length-beside ks ss)

  beside_at : (ks : List (List CellOf)) (ss : List S) (i : ℕ) (d : List CellOf × S) → i < length ks → get_or (beside u ks ss) i d ≡ (get_or ks i [], get_or ss i u.aggregation.neutral)
  beside_at [] ss i d l = absurd (omega arith)
  beside_at (k ∷ ks) [] zero d l = refl
  beside_at (k ∷ ks) (s ∷ ss) zero d l = refl
  beside_at (k ∷ ks) [] (suc i) d l = beside_at ks [] i d (omega arith)
  beside_at (k ∷ ks) (s ∷ ss) (suc i) d l = beside_at ks ss i d (omega arith)

  module _ (g : Groups S) where
    pub all_length : length (out_rows u (held_pairs u g)) ≡ length g.keys
    all_length = length-map (held_pairs u g) (λ p. out_row u p.0 p.1) ∙ length-beside g.keys g.states

    -- the row of group i
    pub row_at : (i : ℕ) (row : List CellOf) → i < length g.keys → row ≡ out_row u (get_or g.keys i []) (get_or g.states i u.aggregation.neutral)
        → row ≡ get_or (out_rows u (held_pairs u g)) i []
    row_at i row l is =
        let d : List CellOf × S = ([], u.aggregation.neutral) in
        is
        ∙ sym (ap (λ (p : List CellOf × S). out_row u p.0 p.1) (beside_at g.keys g.states i d l))
        ∙ sym (get_or-map (λ p. out_row u p.0 p.1) (held_pairs u g) i d [] (omega (arith, length-beside g.keys g.states)))

    -- the first so many rows are what an emission hands out
    pub emission-is : (to : EmitTo) (n : ℕ) (ws : List (List CellOf)) → ws ≡ take n (out_rows u (held_pairs u g)) → n ≡ dropped to (length g.keys) → ws ≡ emission u to g
    emission-is All n ws e c = e ∙ take_all n (out_rows u (held_pairs u g)) (omega (arith, c, all_length))
    emission-is (First m) n ws e c =
        e ∙ ap (λ (k : ℕ). take k (out_rows u (held_pairs u g))) c
        ∙ take-least (out_rows u (held_pairs u g)) m (length g.keys) all_length
        ∙ take-map (λ p. out_row u p.0 p.1) m (held_pairs u g)

-- a group below the number that goes out is held
pub below_held : (to : EmitTo) (n i count : ℕ) → count ≡ dropped to n → i < count → i < n
below_held to n i count e l = omega (arith, dropped-le to n)
