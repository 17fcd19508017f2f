-- What is done to two lists of states is done to them side by side.
use Rattle.std.specs.Prelude.{◌≡◌, ℕ, zero, suc, ◌+◌, ◌<◌, ◌≤◌, min, max, List, [], ◌∷◌, ◌++◌, length, take, drop, replicate, slice_index_or, slice_set, refl}
use Rattle.std.proofs.Common.{sym, ap, ◌∙◌, arith}
use Rattle.std.proofs.lemmas.List.{ext_get_or}
use Rattle.std.proofs.lemmas.Grind.{common_steps}
use Rattle.cells.specs.Rows.{CellOf}
use Rattle.cells.specs.Emits.{left}
use Rattle.cells.specs.declared.emit_to.EmitTo.{EmitTo}
use Rattle.cells.specs.declared.emit_to.EmitTo.TheVariants.{All, First}
use Rattle.aggregates.specs.declared.aggregate_expr.AggregateExpr.{AggregateExpr}
use Rattle.accumulators.specs.Aggregations.{Aggregation, paired}
use Rattle.accumulators.specs.Groups.{grown, fed, fed_from, updated, side_by_side}

pub pairs : {S T : Type 0} {s u : S} {t v : T} → s ≡ u → t ≡ v → ◌≡◌ {A = S × T} (s, t) (u, v)
pairs e f = rw (e, f) refl

module _ {S : Type 0} (e : S) where
  get_or-replicate_own : (n i : ℕ) → slice_index_or (replicate n e) i e ≡ e
  get_or-replicate_own zero i = refl
  get_or-replicate_own (suc n) zero = refl
  get_or-replicate_own (suc n) (suc i) = get_or-replicate_own n i

  get_or-padded : (n : ℕ) (ss : List S) (i : ℕ) → slice_index_or (ss ++ replicate n e) i e ≡ slice_index_or ss i e
  get_or-padded n [] i = get_or-replicate_own n i
  get_or-padded n (s ∷ ss) zero = refl
  get_or-padded n (s ∷ ss) (suc i) = get_or-padded n ss i

  pub length-grown : (n : ℕ) (ss : List S) → length (grown e n ss) ≡ max n (length ss)
  length-grown n ss = grind (arith, common_steps)

module _ {S T : Type 0} (e : S) (f : T) where
  pub length-side_by_side : (ss : List S) (ts : List T) → length (side_by_side e f ss ts) ≡ max (length ss) (length ts)
  length-side_by_side [] [] = refl
  length-side_by_side [] (t ∷ ts) = omega (arith, length-side_by_side [] ts)
  length-side_by_side (s ∷ ss) [] = omega (arith, length-side_by_side ss [])
  length-side_by_side (s ∷ ss) (t ∷ ts) = omega (arith, length-side_by_side ss ts)

  pub get_or-side_by_side : (ss : List S) (ts : List T) (i : ℕ) → slice_index_or (side_by_side e f ss ts) i (e, f) ≡ (slice_index_or ss i e, slice_index_or ts i f)
  get_or-side_by_side [] [] i = refl
  get_or-side_by_side [] (t ∷ ts) zero = refl
  get_or-side_by_side [] (t ∷ ts) (suc i) = get_or-side_by_side [] ts i
  get_or-side_by_side (s ∷ ss) [] zero = refl
  get_or-side_by_side (s ∷ ss) [] (suc i) = get_or-side_by_side ss [] i
  get_or-side_by_side (s ∷ ss) (t ∷ ts) zero = refl
  get_or-side_by_side (s ∷ ss) (t ∷ ts) (suc i) = get_or-side_by_side ss ts i

  side_by_side-same : {ss us : List S} {ts vs : List T} → us ≡ ss → vs ≡ ts → side_by_side e f us vs ≡ side_by_side e f ss ts
  side_by_side-same p q = rw (p, q) refl

  -- the length and the elements tell
  side_by_side-is : (ss : List S) (ts : List T) (zs : List (S × T)) → length zs ≡ max (length ss) (length ts)
      → ((i : ℕ) → slice_index_or zs i (e, f) ≡ (slice_index_or ss i e, slice_index_or ts i f)) → side_by_side e f ss ts ≡ zs
  side_by_side-is ss ts zs len at =
      ext_get_or (e, f) (side_by_side e f ss ts) zs (length-side_by_side ss ts ∙ sym len) (λ i h. get_or-side_by_side ss ts i ∙ sym (at i))

  side_by_side-drop : (n : ℕ) (ss : List S) (ts : List T) → side_by_side e f (drop n ss) (drop n ts) ≡ drop n (side_by_side e f ss ts)
  side_by_side-drop n ss ts =
      side_by_side-is (drop n ss) (drop n ts) (drop n (side_by_side e f ss ts))
      (grind (arith, common_steps, length-side_by_side ss ts))
      (λ i. grind (arith, common_steps, get_or-side_by_side ss ts (n + i)))

  side_by_side-grown : (n : ℕ) (ss : List S) (ts : List T) → side_by_side e f (grown e n ss) (grown f n ts) ≡ grown (e, f) n (side_by_side e f ss ts)
  side_by_side-grown n ss ts =
      side_by_side-is (grown e n ss) (grown f n ts) (grown (e, f) n (side_by_side e f ss ts))
      (omega (arith, length-grown e n ss, length-grown f n ts, length-grown (e, f) n (side_by_side e f ss ts), length-side_by_side ss ts))
      (λ i. rw (get_or-padded (e, f) _ (side_by_side e f ss ts) i, get_or-padded e _ ss i, get_or-padded f _ ts i) (get_or-side_by_side ss ts i))

  side_by_side-set : (ss : List S) (ts : List T) (i : ℕ) (s : S) (t : T) → i < length ss → i < length ts
      → side_by_side e f (slice_set ss i s) (slice_set ts i t) ≡ slice_set (side_by_side e f ss ts) i (s, t)
  side_by_side-set [] ts i s t h k = absurd (omega arith)
  side_by_side-set (u ∷ ss) [] i s t h k = absurd (omega arith)
  side_by_side-set (u ∷ ss) (v ∷ ts) zero s t h k = refl
  side_by_side-set (u ∷ ss) (v ∷ ts) (suc i) s t h k = ap (λ zs. (u, v) ∷ zs) (side_by_side-set ss ts i s t (omega arith) (omega arith))

  pub side_by_side-left : (to : EmitTo) (ss us : List S) (ts vs : List T) → us ≡ left to ss → vs ≡ left to ts
      → side_by_side e f us vs ≡ left to (side_by_side e f ss ts)
  side_by_side-left All ss us ts vs p q = side_by_side-same p q
  side_by_side-left (First n) ss us ts vs p q = side_by_side-same p q ∙ side_by_side-drop n ss ts

length-fed : {S : Type 0} (a : Aggregation S) (n place : ℕ) (s : S) (ss : List S) → length (fed a n place s ss) ≡ length ss
length-fed a n place s ss = grind (arith, common_steps)

module _ {S T : Type 0} (a : Aggregation S) (b : Aggregation T) where
  side_by_side-fed : (n place : ℕ) (s : S) (t : T) (ss : List S) (ts : List T) → n ≤ length ss → n ≤ length ts
      → side_by_side a.neutral b.neutral (fed a n place s ss) (fed b n place t ts)
      ≡ fed (paired a b) n place (s, t) (side_by_side a.neutral b.neutral ss ts)
  side_by_side-fed n place s t ss ts l m =
      grind (arith, side_by_side-set a.neutral b.neutral ss ts place, get_or-side_by_side a.neutral b.neutral ss ts place)

  module _ (exprs : List AggregateExpr) (rows : List (List CellOf)) where
    side_by_side-fed_from : (places : List ℕ) (n i : ℕ) (ss : List S) (ts : List T) → n ≤ length ss → n ≤ length ts
        → side_by_side a.neutral b.neutral (fed_from a (take a.aggregates exprs) rows n i ss places) (fed_from b (drop a.aggregates exprs) rows n i ts places)
        ≡ fed_from (paired a b) exprs rows n i (side_by_side a.neutral b.neutral ss ts) places
    side_by_side-fed_from [] n i ss ts l m = refl
    side_by_side-fed_from (p ∷ places) n i ss ts l m =
        let s = a.own (take a.aggregates exprs) (slice_index_or rows i []) in
        let t = b.own (drop a.aggregates exprs) (slice_index_or rows i []) in
        side_by_side-fed_from places n (i + 1) (fed a n p s ss) (fed b n p t ts) (grind (arith, common_steps)) (grind (arith, common_steps))
        ∙ ap (λ (zs : List (S × T)). fed_from (paired a b) exprs rows n (i + 1) zs places) (side_by_side-fed n p s t ss ts l m)

    -- us and vs are what each holds after a batch
    pub side_by_side-updated : (front back : List AggregateExpr) (places : List ℕ) (total : ℕ) (ss us : List S) (ts vs : List T)
        → front ≡ take a.aggregates exprs → back ≡ drop a.aggregates exprs
        → us ≡ updated a front rows places total ss → vs ≡ updated b back rows places total ts
        → side_by_side a.neutral b.neutral us vs ≡ updated (paired a b) exprs rows places total (side_by_side a.neutral b.neutral ss ts)
    side_by_side-updated front back places total ss us ts vs first second p q =
        let n = min total 512 in
        rw (p, q, first, second, ← side_by_side-grown a.neutral b.neutral n ss ts)
        (side_by_side-fed_from places n 0 (grown a.neutral n ss) (grown b.neutral n ts) (omega (arith, length-grown a.neutral n ss)) (omega (arith, length-grown b.neutral n ts)))
