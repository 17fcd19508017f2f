use Rattle.std.proofs.Common.{sym, ap, ◌∙◌}
use Rattle.model.specs.Steps.{limited}
use Rattle.stream.specs.Refusals.{offer_answer}
use Rattle.stream.specs.Streams.{model_of, setup_in, memory_of}
use Rattle.stream.proofs.Settling.{limited-comes, prefix_comes, partial_comes, single_comes}
use Rattle.stream.proofs.state.GroupedHashAggregateStream.settle.Goals as goal

pub returns-then-is_limited : goal.returns-then-is_limited
returns-then-is_limited g c =
    let s = c.args.self.now in
    let w = memory_of s in
    let u = setup_in s in
    let m = model_of s in
    record {
      does = record {
        comes = limited-comes u w m c.args.input_rows s.reservation _ _
            (ap (limited u.settings.soft_limit) (sym c.len.ensures) ∙ sym c.is_limited.ensures ∙ c.if-is_limited.true)
            c.set_input_done_and_produce_output.ensures.ends;
        plan = c.set_input_done_and_produce_output.ensures.plan;
      };
      refused = tt;
    }

pub returns-in-Some : goal.returns-in-Some
returns-in-Some g c =
    let s = c.args.self.now in
    let w = memory_of s in
    let u = setup_in s in
    let m = model_of s in
    record {
      does = record {
        comes = prefix_comes u w m c.args.input_rows s.reservation _ _
            (ap (limited u.settings.soft_limit) (sym c.len.ensures) ∙ sym c.is_limited.ensures ∙ c.if-is_limited.false)
            c.emit_to.result c.emit_to.ensures c.in-Some.emit_to c.in-Some.is c.emit.ensures.asks.0 c.emit.ensures.model c.emit.ensures.asks.1;
        plan = c.emit.ensures.plan;
      };
      refused = tt;
    }

pub returns-then-is_partial : goal.returns-then-is_partial
returns-then-is_partial g c =
    let s = c.args.self.now in
    let w = memory_of s in
    let u = setup_in s in
    let m = model_of s in
    record {
      does = record {
        comes = partial_comes u w m c.args.input_rows s.reservation _ _
            (ap (limited u.settings.soft_limit) (sym c.len.ensures) ∙ sym c.is_limited.ensures ∙ c.if-is_limited.false)
            c.emit_to.result c.emit_to.ensures (offer_answer c.probe_and_reserve.result) c.in_default.is (sym c.is_partial.ensures ∙ c.if-is_partial.true)
            c.probe_and_reserve.ensures.does.comes;
        plan = c.probe_and_reserve.ensures.does.plan;
      };
      refused = c.probe_and_reserve.ensures.refused;
    }

pub returns-else-is_partial : goal.returns-else-is_partial
returns-else-is_partial g c =
    let s = c.args.self.now in
    let w = memory_of s in
    let u = setup_in s in
    let m = model_of s in
    record {
      does = record {
        comes = single_comes u w m c.args.input_rows s.reservation _ _
            (ap (limited u.settings.soft_limit) (sym c.len.ensures) ∙ sym c.is_limited.ensures ∙ c.if-is_limited.false)
            c.emit_to.result c.emit_to.ensures (offer_answer c.try_update_memory_reservation.result) c.in_default.is (sym c.is_partial.ensures ∙ c.if-is_partial.false)
            c.try_update_memory_reservation.ensures.does.comes;
        plan = c.try_update_memory_reservation.ensures.does.plan;
      };
      refused = c.try_update_memory_reservation.ensures.refused;
    }
