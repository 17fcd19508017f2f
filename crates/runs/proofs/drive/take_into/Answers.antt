use Rattle.std.proofs.Common.{length, vec_items, ap, ◌∙◌}
use Rattle.std.proofs.lemmas.List.{with_items_is}
use Rattle.runs.specs.Scripts.{answer_of}
use Rattle.runs.proofs.Calling.{take-called, takes_same}
use Rattle.runs.proofs.drive.take_into.Goals as goal

pub returns : goal.returns
returns g c =
    let out = c.args.out.now in
    let values = with_items_is out.values c.take.new.values (c.take.auto.values ∙ c.deref_mut.ensures.len) in
    let flags = with_items_is out.flags c.take.new.flags (c.take.auto.flags ∙ c.deref_mut-2.ensures.len) in record {
      called = take-called c.args.stream.now c.take.new.self (vec_items out.values) _ (vec_items out.flags) _ c.deref_mut.ensures.value c.deref_mut-2.ensures.value c.take.result _ _ _ _ values flags c.take.ensures.takes
          c.reply.result (ap answer_of c.reply.ensures.answer) _ c.reservation.ensures c.reply.ensures.bytes c.reply.ensures.granted;
      plan = c.take.ensures.plan;
      request = takes_same _ _ _ _ (ap length values ∙ c.take.auto.values ∙ ap length c.deref_mut.ensures.value)
          (ap length flags ∙ c.take.auto.flags ∙ ap length c.deref_mut-2.ensures.value);
    }
