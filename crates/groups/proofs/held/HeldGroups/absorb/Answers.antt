use Rattle.std.proofs.Common.{ℕ, sym, ap, ◌∙◌}
use Rattle.cells.specs.Views.{view_rows}
use Rattle.model.specs.Machine.{absorbed_from}
use Rattle.groups.specs.Plans.{setup_of}
use Rattle.groups.specs.Held.{held_of}
use Rattle.groups.proofs.Absorbing.{set_more, sets_all}
use Rattle.groups.proofs.held.HeldGroups.absorb.Goals as goal

pub loop-set-preserved : goal.loop-set-preserved
loop-set-preserved g c =
    let u = setup_of g.A.GroupsAccumulator.aggregation g.G.GroupValues.admitted c.args.plan.now in
    let rows = view_rows c.args.batch.now in
    set_more u _ _ rows c.loop-set.set c.num_sets-set-end.result c.loop-set-test.true c.absorb_set.ensures ∙ c.loop-set.invariant

pub returns : goal.returns
returns g c =
    let u = setup_of g.A.GroupsAccumulator.aggregation g.G.GroupValues.admitted c.args.plan.now in
    let rows = view_rows c.args.batch.now in
    sym (sets_all u _ rows c.loop-set.set c.num_sets-set-end.result c.loop-set-test.false)
    ∙ c.loop-set.invariant
    ∙ ap (λ (n : ℕ). absorbed_from u (held_of c.args.self.now) rows 0 n) c.num_sets-set-end.ensures
