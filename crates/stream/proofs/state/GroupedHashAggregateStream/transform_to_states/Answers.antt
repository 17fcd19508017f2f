use Rattle.std.proofs.Common.{refl}
use Rattle.cells.specs.Views.{view_rows}
use Rattle.stream.specs.Streams.{model_of, setup_in, memory_of}
use Rattle.stream.proofs.Grouping.{bypassed-comes}
use Rattle.stream.proofs.state.GroupedHashAggregateStream.transform_to_states.Goals as goal

pub returns : goal.returns
returns g c =
    let s = c.args.self.now in
    let w = memory_of s in
    record {
      comes = bypassed-comes (setup_in s) w (model_of s) (view_rows c.args.batch.now)
          c.num_rows.result c.num_rows.ensures.value _ (c.convert_rows.ensures s.narrow c.requires.partial) s.reservation;
      plan = refl;
    }
