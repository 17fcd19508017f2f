use Rattle.std.proofs.Common.{◌≡◌, ℕ, [], Some, None, sym, refl, ap, ◌∙◌}
use Rattle.std.proofs.lemmas.Result.{err_from_is_err_and}
use Rattle.cells.specs.Faults.{batch_fault}
use Rattle.cells.specs.Views.{view_rows, rows_in}
use Rattle.model.specs.Steps.{offer as offering}
use Rattle.stream.specs.declared.faults.OfferFault.{OfferFault}
use Rattle.stream.specs.Refusals.{offer_refusal, offer_fault_of, offer_answer}
use Rattle.stream.specs.Streams.{model_of, setup_in, memory_of}
use Rattle.stream.proofs.Offering.{unless-kept, lawful_asks, makes, fault_reading, fault_batch, fault_total, fault_groups, refused-comes, accepted-comes, countable}
use Rattle.stream.proofs.state.GroupedHashAggregateStream.offer.Goals as goal

pub returns-in_err-ask_reading : goal.returns-in_err-ask_reading
returns-in_err-ask_reading g c =
    let s = c.args.self.now in
    let w = memory_of s in
    let u = setup_in s in
    let m = model_of s in
    let v = c.args.values.now in
    let f = c.args.flags.now in
    let res = c.from_residual.result in
    let e = err_from_is_err_and res c.from_residual.ensures.1 in
    let comes = refused-comes u w m v f res e.0 e.1
    (fault_reading u w m v f (offer_fault_of c.ask_reading.result) c.ask_reading.ensures (offer_refusal e.0) (ap offer_fault_of c.in_err-ask_reading.was ∙ ap (λ (x : OfferFault). Some (offer_refusal x)) (sym e.2)))
    s.reservation in
    record {
      offers = makes u w (lawful_asks _ _ _ g.met.R.MemoryReservation.lawful) m s.reservation (offering v f) (offer_answer res) [] m s.reservation comes;
      unaltered = unless-kept res refl;
      plan = refl;
    }

pub returns-in_err-batch : goal.returns-in_err-batch
returns-in_err-batch g c =
    let s = c.args.self.now in
    let w = memory_of s in
    let u = setup_in s in
    let m = model_of s in
    let v = c.args.values.now in
    let f = c.args.flags.now in
    let res = c.from_residual-in_err-batch.result in
    let e = err_from_is_err_and res c.from_residual-in_err-batch.ensures.1 in
    let comes = refused-comes u w m v f res e.0 e.1
    (fault_batch u w m v f (offer_fault_of c.ask_reading.result) c.ask_reading.ensures (ap offer_fault_of c.in_ok-ask_reading.was) (offer_refusal e.0)
    (ap (λ (C : ℕ). batch_fault C v f) (sym c.columns.ensures) ∙ c.in_err-batch.ensures ∙ ap (λ (x : OfferFault). Some (offer_refusal x)) (sym e.2)))
    s.reservation in
    record {
      offers = makes u w (lawful_asks _ _ _ g.met.R.MemoryReservation.lawful) m s.reservation (offering v f) (offer_answer res) [] m s.reservation comes;
      unaltered = unless-kept res refl;
      plan = refl;
    }

pub returns-in_err-ask_rows : goal.returns-in_err-ask_rows
returns-in_err-ask_rows g c =
    let s = c.args.self.now in
    let w = memory_of s in
    let u = setup_in s in
    let m = model_of s in
    let v = c.args.values.now in
    let f = c.args.flags.now in
    let seen = view_rows c.in_ok-batch.batch in
    let whole : batch_fault u.settings.columns v f ≡ None = ap (λ (C : ℕ). batch_fault C v f) (sym c.columns.ensures) ∙ c.in_ok-batch.ensures.0 in
    let view : seen ≡ rows_in u.settings.columns v f = c.in_ok-batch.ensures.1 ∙ ap (λ (C : ℕ). rows_in C v f) c.columns.ensures in
    let res = c.from_residual-in_err-ask_rows.result in
    let e = err_from_is_err_and res c.from_residual-in_err-ask_rows.ensures.1 in
    let comes = refused-comes u w m v f res e.0 e.1
    (fault_total u w m v f (offer_fault_of c.ask_reading.result) c.ask_reading.ensures (ap offer_fault_of c.in_ok-ask_reading.was) whole seen view (offer_fault_of c.ask_rows.result) c.ask_rows.ensures (offer_refusal e.0)
    (ap offer_fault_of c.in_err-ask_rows.was ∙ ap (λ (x : OfferFault). Some (offer_refusal x)) (sym e.2)))
    s.reservation in
    record {
      offers = makes u w (lawful_asks _ _ _ g.met.R.MemoryReservation.lawful) m s.reservation (offering v f) (offer_answer res) [] m s.reservation comes;
      unaltered = unless-kept res refl;
      plan = refl;
    }

pub returns-in_err-ask_groups : goal.returns-in_err-ask_groups
returns-in_err-ask_groups g c =
    let s = c.args.self.now in
    let w = memory_of s in
    let u = setup_in s in
    let m = model_of s in
    let v = c.args.values.now in
    let f = c.args.flags.now in
    let seen = view_rows c.in_ok-batch.batch in
    let whole : batch_fault u.settings.columns v f ≡ None = ap (λ (C : ℕ). batch_fault C v f) (sym c.columns.ensures) ∙ c.in_ok-batch.ensures.0 in
    let view : seen ≡ rows_in u.settings.columns v f = c.in_ok-batch.ensures.1 ∙ ap (λ (C : ℕ). rows_in C v f) c.columns.ensures in
    let res = c.from_residual-in_err-ask_groups.result in
    let e = err_from_is_err_and res c.from_residual-in_err-ask_groups.ensures.1 in
    let comes = refused-comes u w m v f res e.0 e.1
    (fault_groups u w m v f (offer_fault_of c.ask_reading.result) c.ask_reading.ensures (ap offer_fault_of c.in_ok-ask_reading.was) whole seen view (offer_fault_of c.ask_rows.result) c.ask_rows.ensures
    (ap offer_fault_of c.in_ok-ask_rows.was) (offer_fault_of c.ask_groups.result) c.ask_groups.ensures
    ∙ ap offer_fault_of c.in_err-ask_groups.was ∙ ap (λ (x : OfferFault). Some (offer_refusal x)) (sym e.2))
    s.reservation in
    record {
      offers = makes u w (lawful_asks _ _ _ g.met.R.MemoryReservation.lawful) m s.reservation (offering v f) (offer_answer res) [] m s.reservation comes;
      unaltered = unless-kept res refl;
      plan = refl;
    }

pub handle-requires : goal.handle-requires
handle-requires g c =
    let s = c.args.self.now in
    countable (setup_in s) (model_of s) (view_rows c.in_ok-batch.batch) (sym c.ask_rows.ensures ∙ ap offer_fault_of c.in_ok-ask_rows.was)

pub returns : goal.returns
returns g c =
    let s = c.args.self.now in
    let w = memory_of s in
    let u = setup_in s in
    let m = model_of s in
    let v = c.args.values.now in
    let f = c.args.flags.now in
    let seen = view_rows c.in_ok-batch.batch in
    let whole : batch_fault u.settings.columns v f ≡ None = ap (λ (C : ℕ). batch_fault C v f) (sym c.columns.ensures) ∙ c.in_ok-batch.ensures.0 in
    let view : seen ≡ rows_in u.settings.columns v f = c.in_ok-batch.ensures.1 ∙ ap (λ (C : ℕ). rows_in C v f) c.columns.ensures in
    let res = c.handle.result in
    let clean = fault_groups u w m v f (offer_fault_of c.ask_reading.result) c.ask_reading.ensures (ap offer_fault_of c.in_ok-ask_reading.was) whole seen view (offer_fault_of c.ask_rows.result) c.ask_rows.ensures
    (ap offer_fault_of c.in_ok-ask_rows.was) (offer_fault_of c.ask_groups.result) c.ask_groups.ensures
    ∙ ap offer_fault_of c.in_ok-ask_groups.was in
    let t = c.handle.new.self in
    let m' = model_of t in
    record {
      offers = makes u w (lawful_asks _ _ _ g.met.R.MemoryReservation.lawful) m s.reservation (offering v f) (offer_answer res) [] m' t.reservation
          (accepted-comes u w m v f clean seen view s.reservation m' t.reservation (offer_answer res) c.handle.ensures.does.comes);
      unaltered = c.handle.ensures.unaltered;
      plan = c.handle.ensures.does.plan;
    }
