use Rattle.std.proofs.Common.{ap}
use Rattle.output.specs.Waits.{waiting_rows}
use Rattle.model.specs.Machine.{grouping}
use Rattle.stream.specs.declared.state.InputEvent.TheVariants.{Batch}
use Rattle.stream.specs.Refusals.{offer_answer}
use Rattle.stream.specs.Streams.{phase_of, model_of, setup_in, memory_of}
use Rattle.stream.proofs.Grouping.{handled-comes}
use Rattle.stream.proofs.Offering.{unless-never}
use Rattle.stream.proofs.state.GroupedHashAggregateStream.handle.Goals as goal

pub returns-in-ReadingInput-Batch : goal.returns-in-ReadingInput-Batch
returns-in-ReadingInput-Batch g c =
    let s = c.args.self.now in
    let w = memory_of s in
    let arm = c.in-ReadingInput-Batch in
    record {
      does = record {
        comes = handled-comes (setup_in s) w (model_of s)
            c.args.event (Batch arm.batch) arm.is-1 grouping (ap (λ x. phase_of x (waiting_rows s.waiting)) arm.is-0)
            s.reservation _ _ (offer_answer c.group_aggregate_batch.result) c.group_aggregate_batch.ensures.does.comes;
        plan = c.group_aggregate_batch.ensures.does.plan;
      };
      unaltered = unless-never c.group_aggregate_batch.result _ c.group_aggregate_batch.ensures.refused;
    }
