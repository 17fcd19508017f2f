use Rattle.std.proofs.Common.{◌≡◌, ℕ, ◌+◌, ◌<◌, List, map, length, get_or, take, vec_items, vec_len, refl, ap, ◌∙◌, subst, arith, length-set}
use Rattle.std.proofs.lemmas.List.{length-map, take_all}
use Rattle.groups.specs.declared.plan.Plan.{Plan}
use Rattle.groups.specs.Plans.{setup_of}
use Rattle.model.specs.Setups.{Setup}
use Rattle.model.specs.Steps.{Request}
use Rattle.stream.specs.Streams.{model_of, memory_of}
use Rattle.runs.specs.declared.script.Call.{Call}
use Rattle.runs.specs.Scripts.{request_of, call_slices, answer_of, tells}
use Rattle.runs.specs.Ran.{Called, Walked}
use Rattle.runs.proofs.Walking.{walked_none, walked_more, requests_kept, may_call, reads_on}
use Rattle.runs.proofs.drive.read.Goals as goal

pub loop-call-init : goal.loop-call-init
loop-call-init g c =
    let w = memory_of c.args.stream.now in
    let setup : Plan → Setup g.row.A-State.Denot = λ p. setup_of g.A.GroupsAccumulator.aggregation g.G.GroupValues.admitted p in
    let s = c.args.stream.now in (
      omega arith,
      refl,
      refl,
      refl,
      omega arith,
      refl,
      λ h led reads.
          walked_none request_of call_slices (setup s.plan) w h c.args.calls.now (vec_items c.args.replies.now) (model_of s) s.reservation led,
    )

pub push_reserved-requires : goal.push_reserved-requires
push_reserved-requires g c =
    let inv = c.loop-call.invariant in
    omega (arith, inv.4, inv.5, c.requires, c.loop-call-test.true, c.loop-call.auto.calls)

pub loop-call-preserved : goal.loop-call-preserved
loop-call-preserved g c =
    let w = memory_of c.args.stream.now in
    let setup : Plan → Setup g.row.A-State.Denot = λ p. setup_of g.A.GroupsAccumulator.aggregation g.G.GroupValues.admitted p in
    let inv = c.loop-call.invariant in
    let first = c.args.stream.now in
    let s = c.loop-call.stream in
    let call = c.make-made in
    let t = call.new.stream in
    let m = model_of s in
    let xs₀ = c.args.calls.now in
    let xs = c.loop-call.calls in
    let i = c.loop-call.call-index in
    let x : Call = get_or xs i c.call-item.result in
    let at : x ≡ get_or xs i x = ap (λ (d : Call). get_or xs i d) c.call-item.is in
    let x' = call.new.call in
    let inside : i < length xs = omega (arith, c.loop-call-test.true, c.loop-call.auto.calls) in
    let m' = model_of t in
    let called : Called (setup s.plan) w m s.reservation (request_of x) (call_slices x) (call_slices x') call.result m' t.reservation = call.ensures.called in
    let same : map request_of xs ≡ map request_of xs₀ = inv.3 in (
      omega (arith, length-set xs i x'),
      call.ensures.plan ∙ inv.1,
      reads_on (setup s.plan) w m s.reservation m' t.reservation (answer_of call.result.answer) called.out x called.makes.comes ∙ inv.2,
      requests_kept request_of xs₀ xs i x x' inside at call.ensures.request same,
      omega (arith, c.push_reserved.ensures.len, inv.4),
      c.push_reserved.ensures.capacity ∙ inv.5,
      λ h led reads.
          walked_more request_of call_slices (setup first.plan) w h xs₀ xs i (vec_items c.args.replies.now) (vec_items c.loop-call.replies) m s.reservation (inv.6 h led reads)
          inside same x at (may_call m x (inv.2 ∙ reads)) x' call.result m' t.reservation
          (subst (λ (p : Plan). Called (setup p) w m s.reservation (request_of x) (call_slices x) (call_slices x') call.result m' t.reservation) inv.1 called)
          (vec_items c.push_reserved.new.self) c.push_reserved.ensures.items,
    )

pub returns : goal.returns
returns g c =
    let w = memory_of c.args.stream.now in
    let setup : Plan → Setup g.row.A-State.Denot = λ p. setup_of g.A.GroupsAccumulator.aggregation g.G.GroupValues.admitted p in
    let inv = c.loop-call.invariant in
    let s = c.loop-call.stream in
    let xs₀ = c.args.calls.now in
    let all : take c.loop-call.call-index (map request_of xs₀) ≡ map request_of xs₀ =
    take_all c.loop-call.call-index (map request_of xs₀) (omega (arith, length-map xs₀ request_of, c.loop-call-test.false, c.loop-call.auto.calls)) in record {
      walked = λ h led reads.
          subst (λ (qs : List Request). Walked (setup c.args.stream.now.plan) w h qs (map call_slices xs₀) (map call_slices c.loop-call.calls) (map tells (vec_items c.args.replies.now)) (map tells (vec_items c.loop-call.replies)) (model_of s) s.reservation) all (inv.6 h led reads);
      plan = inv.1;
      closing = inv.2;
      requests = inv.3;
      len = inv.4 ∙ ap (λ (n : ℕ). vec_len c.args.replies.now + n) (omega (arith, inv.0, c.loop-call-test.false, c.loop-call.auto.calls));
      capacity = inv.5;
    }
