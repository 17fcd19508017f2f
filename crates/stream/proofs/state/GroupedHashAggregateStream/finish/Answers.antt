use Rattle.std.proofs.Common.{[]}
use Rattle.model.specs.Steps.{finish as finishing, closed}
use Rattle.stream.specs.Refusals.{offer_answer}
use Rattle.stream.specs.Streams.{model_of, setup_in, memory_of}
use Rattle.stream.proofs.Grouping.{finish-comes}
use Rattle.stream.proofs.Offering.{lawful_asks, makes}
use Rattle.stream.proofs.state.GroupedHashAggregateStream.finish.Goals as goal

pub returns : goal.returns
returns g c =
    let s = c.args.self in
    let w = memory_of s in
    let u = setup_in s in
    let m = model_of s in
    record {
      finishes = makes u w (lawful_asks _ _ _ g.met.R.MemoryReservation.lawful) m s.reservation finishing closed [] _ _
          (finish-comes u w m s.reservation _ _ (offer_answer c.handle.result) c.handle.ensures.does.comes);
      plan = c.handle.ensures.does.plan;
    }
