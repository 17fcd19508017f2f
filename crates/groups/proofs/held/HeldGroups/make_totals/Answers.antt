use Rattle.std.proofs.Common.{ℕ, ◌<◌, ◌≤◌, min, true, false, List, length, sym, ap, ◌∙◌, arith}
use Rattle.cells.specs.Rows.{CellOf}
use Rattle.accumulators.specs.Groups.{grown}
use Rattle.group_values.specs.Tables.{interned}
use Rattle.model.specs.Setups.{num_sets}
use Rattle.groups.specs.declared.held.HeldGroups.{HeldGroups}
use Rattle.groups.specs.Plans.{setup_of}
use Rattle.groups.proofs.Totals.{total_more, totals_all}
use Rattle.groups.proofs.held.HeldGroups.make_totals.Goals as goal
use Rattle.groups.proofs.held.HeldGroups.make_totals.Goals.{then-is_grand, else-is_grand}

pub loop-set-preserved : goal.loop-set-preserved
loop-set-preserved g c =
    let u = setup_of g.A.GroupsAccumulator.aggregation g.G.GroupValues.admitted c.args.plan.now in
    let table : HeldGroups g.row.G.Denot g.row.A.Denot g.row.A-State.Denot g.G.GroupValues g.A.GroupsAccumulator → List (List CellOf) = λ h. g.G.GroupValues.keys h.group_values in
    let accumulator : HeldGroups g.row.G.Denot g.row.A.Denot g.row.A-State.Denot g.G.GroupValues g.A.GroupsAccumulator → g.row.A.Denot = λ h. h.accumulator in
    let s = c.loop-set.set in
    let within : s < num_sets u.settings = omega (arith, c.loop-set-test.true, c.num_sets-set-end.ensures) in
    elim c.if-is_grand.branch [
      | then-is_grand w ↦ (
        total_more u true s _ _ within (sym w.if-is_grand.ensures)
            (ap table w.self-is ∙ w.intern.ensures.after ∙ ap (λ (k : List CellOf). interned u.admitted (table c.loop-set.self) k) w.masked_key.ensures)
            ∙ c.loop-set.invariant.0,
        ap accumulator w.self-is ∙ c.loop-set.invariant.1,
        ap (λ (h : HeldGroups g.row.G.Denot g.row.A.Denot g.row.A-State.Denot g.G.GroupValues g.A.GroupsAccumulator). h.group_ordering) w.self-is ∙ c.loop-set.invariant.2,
      )
      | else-is_grand w ↦ (
        total_more u false s _ _ within (sym w.if-is_grand.ensures) (ap table w.self-is) ∙ c.loop-set.invariant.0,
        ap accumulator w.self-is ∙ c.loop-set.invariant.1,
        ap (λ (h : HeldGroups g.row.G.Denot g.row.A.Denot g.row.A-State.Denot g.G.GroupValues g.A.GroupsAccumulator). h.group_ordering) w.self-is ∙ c.loop-set.invariant.2,
      )
    ]

pub returns-in-Ok : goal.returns-in-Ok
returns-in-Ok g c =
    let u = setup_of g.A.GroupsAccumulator.aggregation g.G.GroupValues.admitted c.args.plan.now in
    let s = c.loop-set.set in
    let past : num_sets u.settings ≤ s = omega (arith, c.loop-set-test.false, c.num_sets-set-end.ensures) in
    record {
      table = totals_all u s _ _ past c.loop-set.invariant.0;
      states =
          c.update_batch.ensures
          ∙ ap (λ (n : ℕ). grown u.aggregation.neutral (min n 512) (g.A.GroupsAccumulator.states c.loop-set.self.accumulator)) c.len-total_num_groups.ensures
          ∙ ap (λ (a : g.row.A.Denot). grown u.aggregation.neutral (min (length (g.G.GroupValues.keys c.loop-set.self.group_values)) 512) (g.A.GroupsAccumulator.states a)) c.loop-set.invariant.1;
      ordering = c.loop-set.invariant.2;
    }
