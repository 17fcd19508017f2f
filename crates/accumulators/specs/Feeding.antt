-- A batch joins its rows one by one to states of which there are enough.
use Rattle.std.specs.Prelude.{◌≡◌, ℕ, ◌+◌, ◌-◌, ◌<◌, ◌≤◌, Bool, true, cond, List, [], ◌++◌, length, get_or, take, drop, replicate, slice_index, slice_index_or, slice_set, refl}
use Rattle.std.proofs.Common.{sym, ◌∙◌, arith}
use Rattle.std.proofs.lemmas.List.{take_all, get_or_default, append-nil, at_drop_more, at_drop_all}
use Rattle.std.proofs.lemmas.Bool.{lt-ltb, le-ltb}
use Rattle.cells.specs.Rows.{CellOf}
use Rattle.aggregates.specs.declared.aggregate_expr.AggregateExpr.{AggregateExpr}
use Rattle.accumulators.specs.Aggregations.{Aggregation}
use Rattle.accumulators.specs.Groups.{grown, fed, fed_from}

module _ {S : Type 0} (a : Aggregation S) (n place : ℕ) (s : S) (ss : List S) where
  pub fed-below : place < n → fed a n place s ss ≡ slice_set ss place (a.join (slice_index_or ss place a.neutral) s)
  fed-below h = grind (arith, lt-ltb place n h)

  pub fed-past : n ≤ place → fed a n place s ss ≡ ss
  fed-past h = grind (arith, le-ltb place n h)

  -- old was read at the place, and joined is written there
  pub fed-written : (old own joined : S) → place < n → n ≤ length ss → old ≡ slice_index_or ss place old → own ≡ s → joined ≡ a.join old own
      → slice_set ss place joined ≡ fed a n place s ss
  fed-written old own joined h l read is made =
      let at : old ≡ get_or ss place a.neutral = read ∙ get_or_default ss place old a.neutral (omega arith) in
      rw (fed-below h, made, is, ← at) refl

module _ {S : Type 0} (a : Aggregation S) (exprs : List AggregateExpr) (rows : List (List CellOf)) (n : ℕ) (places : List ℕ) (i : ℕ)
    (ss all : List S) (so_far : fed_from a exprs rows n i ss (drop i places) ≡ all) where
  pub fed_from-more : (ts : List S) → i < length places → ts ≡ fed a n (slice_index places i) (a.own exprs (slice_index_or rows i [])) ss
      → fed_from a exprs rows n (i + 1) ts (drop (i + 1) places) ≡ all
  fed_from-more ts l e = rw e (sym (at_drop_more (fed_from a exprs rows n i ss) places i 0 l) ∙ so_far)

  pub fed_from-all : length places ≤ i → ss ≡ all
  fed_from-all l = sym (at_drop_all (fed_from a exprs rows n i ss) places i l) ∙ so_far

module _ {S : Type 0} (e : S) where
  pub grown-resized : (n len : ℕ) (ss ts : List S) (ok : Bool) (d : S) → len ≡ length ss → len < n → ok ≡ true → d ≡ e
      → ts ≡ cond ok (take n ss ++ replicate (n - len) d) ss → ts ≡ grown e n ss
  grown-resized n len ss ts ok d is short went same after = rw (after, went, same, take_all n ss (omega arith), is) refl

  pub grown-enough : (n : ℕ) (ss : List S) → n ≤ length ss → ss ≡ grown e n ss
  grown-enough n ss h =
      let none : n - length ss ≡ 0 = omega arith in
      rw none (sym (append-nil ss))
