use Rattle.std.proofs.Common.{ℕ, List, sym, refl, subst, true≢false, arith}
use Rattle.std.proofs.lemmas.List.{take_all}
use Rattle.group_by.specs.Counts.{Distinct}
use Rattle.group_by.proofs.Counting.{distinct_more, not_distinct}
use Rattle.group_by.proofs.count.distinct_positions.Goals as goal

pub returns-then-count_equal-gt0 : goal.returns-then-count_equal-gt0
returns-then-count_equal-gt0 c = (
  λ e. absurd (true≢false (sym e)),
  λ distinct. absurd (not_distinct c.args.positions.now c.loop-place.place _ _ c.count_equal.result c.loop-place-test.true (omega arith) refl c.count_equal.ensures.count c.if-count_equal-gt0.true distinct),
)

pub loop-place-preserved : goal.loop-place-preserved
loop-place-preserved c =
    distinct_more c.args.positions.now c.loop-place.place _ _ c.count_equal.result c.loop-place-test.true (omega arith) refl c.count_equal.ensures.count (omega arith) c.loop-place.invariant

pub returns : goal.returns
returns c = (
  λ e. subst (λ (xs : List ℕ). Distinct xs) (take_all c.loop-place.place c.args.positions.now c.loop-place-test.false) c.loop-place.invariant,
  λ distinct. refl,
)
