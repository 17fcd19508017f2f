-- The worked examples are what the definitions give.
use Rattle.std.proofs.Common.{◌≡◌, ℕ, Bool, false, cond, ◌&&◌, eqb, ltb, List, Some, None, refl, ap, ◌∙◌}
use lib.Count.{count_leading_zeros}
use lib.Ieee.{round, units, odd, size, span, climb, of_int, div, lt}
use Rattle.std.specs.Int.{int_wrap}
use Rattle.cells.specs.declared.emit_to.EmitTo.TheVariants.{First}
use Rattle.cells.specs.Rows.{CellOf}
use Rattle.order.specs.Orders.{Mode, oom_emit_to, oom_emit_to_in}
use Rattle.accumulators.specs.Aggregations.{Aggregation}
use Rattle.model.specs.Setups.{Settings, Setup}
use Rattle.model.specs.Machine.{Model, count}
use Rattle.model.specs.Steps.{Outcome, wanted, emits_if, no_memory, reserved}
use Rattle.cases.specs.Worked.{setup, Refused, WorkedCases}

module _ {S : Type 0} (a : Aggregation S) (admitted : List CellOf → Bool) (st : Settings) (m : Model S) (h : Bool) (r : Refused st m) where
  abbrev u : Setup S
  u = setup a admitted st

  -- so many held groups leave only their number to the step
  by_count : (n : ℕ) → count m ≡ n
      → reserved u m false h ≡ cond (ltb 1 n) (emits_if u (cond (eqb (wanted 4 n) 0) None (Some (First (wanted 4 n)))) m h) (no_memory u m)
  by_count n e =
      ap (λ (b : Bool). cond (b && ltb 1 (count m)) (emits_if u (oom_emit_to m.held.order (wanted u.settings.batch_size (count m))) m h) (no_memory u m)) r.partial
      ∙ ap (λ (k : ℕ). cond (ltb 1 (count m)) (emits_if u (oom_emit_to m.held.order (wanted k (count m))) m h) (no_memory u m)) r.size
      ∙ ap (λ (k : ℕ). cond (ltb 1 k) (emits_if u (oom_emit_to m.held.order (wanted 4 k)) m h) (no_memory u m)) e
      ∙ ap (λ (mode : Mode). cond (ltb 1 n) (emits_if u (cond (eqb (wanted 4 n) 0) None (oom_emit_to_in mode m.held.order (wanted 4 n))) m h) (no_memory u m)) r.unordered

pub worked_cases : {S : Type 0} (a : Aggregation S) (admitted : List CellOf → Bool) → WorkedCases a admitted
unfolding count_leading_zeros round units odd size span climb of_int div lt int_wrap
worked_cases {S} a admitted = record {
  id_alone = refl;
  id_second = refl;
  id_widest = refl;
  id_too_wide = refl;
  prefix = λ keys places. refl;
  prefix_gone = λ keys places. refl;
  eight_group = refl;
  nine_skip = refl;
  ten_emit_eight = λ st m h r e. let is = by_count a admitted st m h r 10 e in (ap (λ (o : Outcome S). o.answer) is, ap (λ (o : Outcome S). o.model) is);
  three_emit_three = λ st m h r e. let is = by_count a admitted st m h r 3 e in (ap (λ (o : Outcome S). o.answer) is, ap (λ (o : Outcome S). o.model) is);
  one_is_refused = λ st m h r e. let is = by_count a admitted st m h r 1 e in (ap (λ (o : Outcome S). o.answer) is, ap (λ (o : Outcome S). o.model) is);
  mean = refl;
}
