use Rattle.std.proofs.Common.{true, false, refl}
use Rattle.stream.specs.Streams.{model_of, setup_in, memory_of}
use Rattle.stream.proofs.Taking.{closing_ends, reading_ends}
use Rattle.stream.proofs.state.GroupedHashAggregateStream.output_taken.Goals as goal

pub returns-then-self-2 : goal.returns-then-self-2
returns-then-self-2 g c =
    let s = c.args.self.now in
    let w = memory_of s in
    let u = setup_in s in
    let m = model_of s in
    record {
      ends = closing_ends u w m s.reservation c.if-self.false c.if-self-2.true _ _ c.set_input_done_and_produce_output.ensures.ends;
      plan = c.set_input_done_and_produce_output.ensures.plan;
    }

pub returns-then-should_skip_aggregation : goal.returns-then-should_skip_aggregation
returns-then-should_skip_aggregation g c =
    let s = c.args.self.now in
    let w = memory_of s in
    let u = setup_in s in
    let m = model_of s in
    record {
      ends = reading_ends u w m s.reservation c.if-self.false c.if-self-2.false c.should_skip_aggregation.result true c.should_skip_aggregation.ensures c.if-should_skip_aggregation.true;
      plan = refl;
    }

pub returns-else-should_skip_aggregation : goal.returns-else-should_skip_aggregation
returns-else-should_skip_aggregation g c =
    let s = c.args.self.now in
    let w = memory_of s in
    let u = setup_in s in
    let m = model_of s in
    record {
      ends = reading_ends u w m s.reservation c.if-self.false c.if-self-2.false c.should_skip_aggregation.result false c.should_skip_aggregation.ensures c.if-should_skip_aggregation.false;
      plan = refl;
    }
