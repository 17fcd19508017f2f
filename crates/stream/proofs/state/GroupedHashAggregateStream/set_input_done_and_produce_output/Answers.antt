use Rattle.std.proofs.Common.{true, ap, ◌∙◌}
use Rattle.model.specs.Machine.{Groups, Model}
use Rattle.stream.specs.Streams.{model_of, setup_in, memory_of}
use Rattle.stream.proofs.Ending.{ended_emits}
use Rattle.stream.proofs.state.GroupedHashAggregateStream.set_input_done_and_produce_output.Goals as goal

pub returns-else-len-eq0 : goal.returns-else-len-eq0
returns-else-len-eq0 g c =
    let s = c.args.self.now in
    let w = memory_of s in
    let u = setup_in s in
    let m = model_of s in
    let with-held : Groups g.row.A-State.Denot → Model g.row.A-State.Denot = λ x. record { held = x; probe = m.probe; phase = m.phase; ended = true; closing = m.closing; rows = m.rows } in
    record {
      ends = ended_emits u w m s.reservation (with-held _) _ _ c.emit.ensures.asks.0 (ap with-held c.end.ensures) (λ e. c.if-len-eq0.false (c.len.ensures ∙ e)) c.emit.ensures.model c.emit.ensures.asks.1;
      plan = c.emit.ensures.plan;
    }
