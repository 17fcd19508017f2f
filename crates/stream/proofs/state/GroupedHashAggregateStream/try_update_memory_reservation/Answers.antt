use Rattle.std.proofs.Common.{refl, ap, ◌∙◌, arith}
use Rattle.order.specs.Orders.{oom_emit_to}
use Rattle.groups.specs.declared.plan.Plan.{Plan}
use Rattle.groups.specs.Plans.{setup_of}
use Rattle.model.specs.Setups.{Setup}
use Rattle.model.specs.Steps.{wanted, reserved}
use Rattle.stream.specs.Streams.{model_of, setup_in, memory_of}
use Rattle.stream.proofs.Reserving.{granted_comes, early_comes, single_comes, few_comes, unfinished_comes, asks_there, comes_here}
use Rattle.stream.proofs.state.GroupedHashAggregateStream.try_update_memory_reservation.Goals as goal
use Rattle.stream.proofs.state.GroupedHashAggregateStream.try_update_memory_reservation.Goals.{else-is_partial-via-then-is_partial+else-held-gt1, else-is_partial-via-else-is_partial}

pub returns-then-update_memory_reservation : goal.returns-then-update_memory_reservation
returns-then-update_memory_reservation g c =
    let s = c.args.self.now in
    let w = memory_of s in
    let one = c.update_memory_reservation in
    record {
      does = record {
        comes = granted_comes (setup_in s) w (model_of s) s.reservation
            _ _ one.result c.if-update_memory_reservation.true one.ensures.model (one.ensures.asks);
        plan = one.ensures.plan;
      };
      refused = tt;
    }

pub returns-in-Some : goal.returns-in-Some
returns-in-Some g c =
    let s = c.args.self.now in
    let w = memory_of s in
    let setup : Plan → Setup g.row.A-State.Denot = λ p. setup_of g.A.GroupsAccumulator.aggregation g.G.GroupValues.admitted p in
    let one = c.update_memory_reservation in
    let t = one.new.self in
    let m = model_of s in
    let n = model_of t in
    record {
      does = record {
        comes = comes_here setup w s.plan t.plan m n one.ensures.plan one.ensures.model (λ p x. reserved (setup p) x) s.reservation _ _ _
            (early_comes (setup t.plan) w n s.reservation t.reservation one.result c.if-update_memory_reservation.false
            (asks_there setup w s.plan t.plan m n one.ensures.plan one.ensures.model _ _ _ (one.ensures.asks))
            c.is_partial.result c.is_partial.ensures c.if-is_partial.true (omega (arith, c.if-held-gt1.true, c.len-held.ensures))
            c.oom_emit_to.result c.in-Some.emit_to
            (c.oom_emit_to.ensures ∙ ap (oom_emit_to n.held.order) (c.wanted.ensures ∙ ap (wanted (setup t.plan).settings.batch_size) c.len-held.ensures))
            c.in-Some.is _ _ c.emit.ensures.asks.0 c.emit.ensures.model c.emit.ensures.asks.1);
        plan = c.emit.ensures.plan ∙ one.ensures.plan;
      };
      refused = tt;
    }

pub returns-in_default : goal.returns-in_default
returns-in_default g c =
    let s = c.args.self.now in
    let w = memory_of s in
    let setup : Plan → Setup g.row.A-State.Denot = λ p. setup_of g.A.GroupsAccumulator.aggregation g.G.GroupValues.admitted p in
    let one = c.update_memory_reservation in
    let t = one.new.self in
    let m = model_of s in
    let n = model_of t in
    record {
      does = record {
        comes = comes_here setup w s.plan t.plan m n one.ensures.plan one.ensures.model (λ p x. reserved (setup p) x) s.reservation _ _ _
            (unfinished_comes (setup t.plan) w n s.reservation n t.reservation one.result c.if-update_memory_reservation.false (asks_there setup w s.plan t.plan m n one.ensures.plan one.ensures.model _ _ _ (one.ensures.asks)) refl
            c.is_partial.result c.is_partial.ensures c.if-is_partial.true (omega (arith, c.if-held-gt1.true, c.len-held.ensures)) c.oom_emit_to.result
            (c.oom_emit_to.ensures ∙ ap (oom_emit_to n.held.order) (c.wanted.ensures ∙ ap (wanted (setup t.plan).settings.batch_size) c.len-held.ensures)) c.in_default.is);
        plan = one.ensures.plan;
      };
      refused = tt;
    }

pub returns-else-is_partial : goal.returns-else-is_partial
returns-else-is_partial g c =
    let s = c.args.self.now in
    let w = memory_of s in
    let setup : Plan → Setup g.row.A-State.Denot = λ p. setup_of g.A.GroupsAccumulator.aggregation g.G.GroupValues.admitted p in
    let one = c.update_memory_reservation in
    let t = one.new.self in
    let m = model_of s in
    let n = model_of t in
    record {
      does = record {
        comes = comes_here setup w s.plan t.plan m n one.ensures.plan one.ensures.model (λ p x. reserved (setup p) x) s.reservation _ _ _
            (elim c.else-is_partial.branch [
              | else-is_partial-via-then-is_partial+else-held-gt1 v ↦
                  few_comes (setup t.plan) w n s.reservation n t.reservation one.result c.if-update_memory_reservation.false (asks_there setup w s.plan t.plan m n one.ensures.plan one.ensures.model _ _ _ (one.ensures.asks)) refl
                  c.is_partial.result c.is_partial.ensures v.if-is_partial.true (omega (arith, v.if-held-gt1.false, c.len-held.ensures))
              | else-is_partial-via-else-is_partial v ↦
                  single_comes (setup t.plan) w n s.reservation n t.reservation one.result c.if-update_memory_reservation.false (asks_there setup w s.plan t.plan m n one.ensures.plan one.ensures.model _ _ _ (one.ensures.asks)) refl c.is_partial.result c.is_partial.ensures v.if-is_partial.false
            ]);
        plan = one.ensures.plan;
      };
      refused = tt;
    }
