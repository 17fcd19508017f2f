use Rattle.cells.specs.Views.{view_rows}
use Rattle.stream.specs.Refusals.{offer_answer}
use Rattle.stream.specs.Streams.{model_of, setup_in, memory_of}
use Rattle.stream.proofs.Grouping.{grouped_comes}
use Rattle.stream.proofs.state.GroupedHashAggregateStream.group_aggregate_batch.Goals as goal

pub returns : goal.returns
returns g c =
    let s = c.args.self.now in
    let w = memory_of s in
    record {
      does = record {
        comes = grouped_comes (setup_in s) w (model_of s) (view_rows c.args.batch.now)
            c.num_rows.result c.num_rows.ensures.value c.num_rows-2.result c.num_rows-2.ensures.value _ c.absorb.ensures s.reservation _ _ (offer_answer c.settle.result) c.settle.ensures.does.comes;
        plan = c.settle.ensures.does.plan;
      };
      refused = c.settle.ensures.refused;
    }
