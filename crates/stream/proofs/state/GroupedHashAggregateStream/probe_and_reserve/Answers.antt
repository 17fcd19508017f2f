use Rattle.std.proofs.Common.{◌∙◌, arith}
use Rattle.groups.specs.declared.plan.Plan.{Plan}
use Rattle.groups.specs.Plans.{setup_of}
use Rattle.model.specs.Setups.{Setup}
use Rattle.model.specs.Steps.{probed}
use Rattle.stream.specs.Refusals.{offer_answer}
use Rattle.stream.specs.Streams.{model_of, memory_of}
use Rattle.stream.proofs.Settling.{comes_there, skip_comes, unsaid_comes, none_held_comes}
use Rattle.stream.proofs.state.GroupedHashAggregateStream.probe_and_reserve.Goals as goal
use Rattle.stream.proofs.state.GroupedHashAggregateStream.probe_and_reserve.Goals.{else-should_skip_aggregation-via-then-should_skip_aggregation+else-len-gt0, else-should_skip_aggregation-via-else-should_skip_aggregation}

pub returns-then-len-gt0 : goal.returns-then-len-gt0
returns-then-len-gt0 g c =
    let s = c.args.self.now in
    let w = memory_of s in
    let setup : Plan → Setup g.row.A-State.Denot = λ p. setup_of g.A.GroupsAccumulator.aggregation g.G.GroupValues.admitted p in
    let told = c.update_skip_aggregation_probe in
    let t = told.new.self in
    let m = model_of s in
    let n = model_of t in
    record {
      does = record {
        comes = comes_there w (λ (p : Plan). probed (setup p) m c.args.input_rows) s.plan t.plan s.reservation t.reservation told.ensures.plan told.ensures.reservation _ _ _ _
            (skip_comes (setup t.plan) w m c.args.input_rows t.reservation _ _ n told.ensures.model c.should_skip_aggregation.result c.should_skip_aggregation.ensures
            c.if-should_skip_aggregation.true (omega (arith, c.if-len-gt0.true, c.len.ensures)) c.emit.ensures.asks.0 c.emit.ensures.model c.emit.ensures.asks.1);
        plan = c.emit.ensures.plan ∙ told.ensures.plan;
      };
      refused = tt;
    }

pub returns : goal.returns
returns g c =
    let s = c.args.self.now in
    let w = memory_of s in
    let setup : Plan → Setup g.row.A-State.Denot = λ p. setup_of g.A.GroupsAccumulator.aggregation g.G.GroupValues.admitted p in
    let told = c.update_skip_aggregation_probe in
    let t = told.new.self in
    let m = model_of s in
    let n = model_of t in
    let rest = c.try_update_memory_reservation in
    record {
      does = record {
        comes = comes_there w (λ (p : Plan). probed (setup p) m c.args.input_rows) s.plan t.plan s.reservation t.reservation told.ensures.plan told.ensures.reservation _ _ _ _
            (elim c.else-should_skip_aggregation.branch [
              | else-should_skip_aggregation-via-then-should_skip_aggregation+else-len-gt0 v ↦
                  none_held_comes (setup t.plan) w m c.args.input_rows t.reservation _ _ n told.ensures.model c.should_skip_aggregation.result c.should_skip_aggregation.ensures
                  (offer_answer rest.result) v.if-should_skip_aggregation.true (omega (arith, v.if-len-gt0.false, v.len.ensures)) (rest.ensures.does.comes)
              | else-should_skip_aggregation-via-else-should_skip_aggregation v ↦
                  unsaid_comes (setup t.plan) w m c.args.input_rows t.reservation _ _ n told.ensures.model c.should_skip_aggregation.result c.should_skip_aggregation.ensures
                  (offer_answer rest.result) v.if-should_skip_aggregation.false (rest.ensures.does.comes)
            ]);
        plan = rest.ensures.does.plan ∙ told.ensures.plan;
      };
      refused = rest.ensures.refused;
    }
