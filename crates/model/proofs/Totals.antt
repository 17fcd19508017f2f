-- States joined in order, and the states that pairs hold under one key.
use Rattle.std.proofs.Common.{◌≡◌, Bool, true, false, cond, List, [], ◌∷◌, ◌++◌, sym, refl, ap, ◌∙◌}
use Rattle.std.specs.List.{AllByRecursion as All}
use Rattle.std.proofs.lemmas.Bool.{cond-false}
use Rattle.cells.specs.Rows.{CellOf}
use Rattle.cells.specs.Same.{same_key}
use Rattle.accumulators.specs.Aggregations.{Aggregation, Lawful}
use Rattle.model.specs.Setups.{Setup}
use Rattle.model.specs.Sql.{total}
use Rattle.model.specs.Law.{states_held}
use Rattle.model.proofs.Cases.{not_same}

module _ {S : Type 0} (a : Aggregation S) (l : Lawful a) where
  pub total_sound : (ss : List S) → All a.sound ss → a.sound (total a ss)
  total_sound [] h = l.neutral_sound
  total_sound (s ∷ ss) h = l.join_sound s (total a ss) h.0 (total_sound ss h.1)

  pub total_append : (xs ys : List S) → All a.sound ys → total a (xs ++ ys) ≡ a.join (total a xs) (total a ys)
  total_append [] ys h = sym (l.neutral_left (total a ys) (total_sound ys h))
  total_append (x ∷ xs) ys h = ap (a.join x) (total_append xs ys h) ∙ sym (l.assoc x (total a xs) (total a ys))

module _ {S : Type 0} (u : Setup S) (k : List CellOf) where
  pub held_append : (ps qs : List (List CellOf × S)) → states_held u k (ps ++ qs) ≡ states_held u k ps ++ states_held u k qs
  held_append [] qs = refl
  held_append (p ∷ ps) qs = go (same_key p.0 k) (held_append ps qs)
    where
      go : (b : Bool) → states_held u k (ps ++ qs) ≡ states_held u k ps ++ states_held u k qs
          → cond b (p.1 ∷ states_held u k (ps ++ qs)) (states_held u k (ps ++ qs)) ≡ cond b (p.1 ∷ states_held u k ps) (states_held u k ps) ++ states_held u k qs
      go true ih = ap (λ (ss : List S). p.1 ∷ ss) ih
      go false ih = ih

  pub held_sound : (ps : List (List CellOf × S)) → All (λ p. u.aggregation.sound p.1) ps → All u.aggregation.sound (states_held u k ps)
  held_sound [] h = tt
  held_sound (p ∷ ps) h = go (same_key p.0 k) (held_sound ps h.1)
    where
      go : (b : Bool) → All u.aggregation.sound (states_held u k ps) → All u.aggregation.sound (cond b (p.1 ∷ states_held u k ps) (states_held u k ps))
      go true ih = (h.0, ih)
      go false ih = ih

  pub held_others : (ps : List (List CellOf × S)) → All (λ p. p.0 ≡ k → ⊥) ps → states_held u k ps ≡ []
  held_others [] h = refl
  held_others (p ∷ ps) h =
      cond-false (same_key p.0 k) (p.1 ∷ states_held u k ps) (states_held u k ps) (not_same p.0 k h.0) ∙ held_others ps h.1
