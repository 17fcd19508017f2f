use Rattle.std.proofs.Common.{◌≡◌, ◌<◌, List, map, length, get_or, take, vec_items, refl, ap, ◌∙◌, subst, arith, length-set}
use Rattle.std.proofs.lemmas.List.{length-map, take_all}
use Rattle.groups.specs.declared.plan.Plan.{Plan}
use Rattle.groups.specs.Plans.{setup_of}
use Rattle.model.specs.Setups.{Setup}
use Rattle.model.specs.Steps.{Request}
use Rattle.stream.specs.Streams.{model_of, memory_of}
use Rattle.runs.specs.declared.script.Buffers.{Buffers}
use Rattle.runs.specs.Scripts.{take_of, slices, tells}
use Rattle.runs.specs.Ran.{Called, Walked}
use Rattle.runs.proofs.Walking.{walked_none, walked_more, requests_kept}
use Rattle.runs.proofs.drive.drain.Goals as goal

pub loop-out-init : goal.loop-out-init
loop-out-init g c =
    let w = memory_of c.args.stream.now.stream in
    let setup : Plan → Setup g.row.A-State.Denot = λ p. setup_of g.A.GroupsAccumulator.aggregation g.G.GroupValues.admitted p in
    let s = c.args.stream.now.stream in (
      omega arith,
      refl,
      refl,
      omega arith,
      refl,
      λ h led.
          walked_none take_of slices (setup s.plan) w h c.args.takes.now (vec_items c.args.replies.now) (model_of s) s.reservation led,
    )

pub push_reserved-requires : goal.push_reserved-requires
push_reserved-requires g c =
    let inv = c.loop-out.invariant in
    omega (arith, inv.3, inv.4, c.requires, c.loop-out-test.true, c.loop-out.auto.takes)

pub loop-out-preserved : goal.loop-out-preserved
loop-out-preserved g c =
    let w = memory_of c.args.stream.now.stream in
    let setup : Plan → Setup g.row.A-State.Denot = λ p. setup_of g.A.GroupsAccumulator.aggregation g.G.GroupValues.admitted p in
    let inv = c.loop-out.invariant in
    let first = c.args.stream.now.stream in
    let s = c.loop-out.stream.stream in
    let call = c.drain_into-made in
    let t = call.new.stream.stream in
    let m = model_of s in
    let xs₀ = c.args.takes.now in
    let xs = c.loop-out.takes in
    let i = c.loop-out.out-index in
    let x : Buffers = get_or xs i c.out-item.result in
    let at : x ≡ get_or xs i x = ap (λ (d : Buffers). get_or xs i d) c.out-item.is in
    let x' = call.new.out in
    let inside : i < length xs = omega (arith, c.loop-out-test.true, c.loop-out.auto.takes) in
    let m' = model_of t in
    let called : Called (setup s.plan) w m s.reservation (take_of x) (slices x) (slices x') call.result m' t.reservation = call.ensures.called in
    let same : map take_of xs ≡ map take_of xs₀ = inv.2 in (
      omega (arith, length-set xs i x'),
      call.ensures.plan ∙ inv.1,
      requests_kept take_of xs₀ xs i x x' inside at call.ensures.request same,
      omega (arith, c.push_reserved.ensures.len, inv.3),
      c.push_reserved.ensures.capacity ∙ inv.4,
      λ h led.
          walked_more take_of slices (setup first.plan) w h xs₀ xs i (vec_items c.args.replies.now) (vec_items c.loop-out.replies) m s.reservation (inv.5 h led)
          inside same x at tt x' call.result m' t.reservation
          (subst (λ (p : Plan). Called (setup p) w m s.reservation (take_of x) (slices x) (slices x') call.result m' t.reservation) inv.1 called)
          (vec_items c.push_reserved.new.self) c.push_reserved.ensures.items,
    )

pub returns : goal.returns
returns g c =
    let w = memory_of c.args.stream.now.stream in
    let setup : Plan → Setup g.row.A-State.Denot = λ p. setup_of g.A.GroupsAccumulator.aggregation g.G.GroupValues.admitted p in
    let inv = c.loop-out.invariant in
    let s = c.loop-out.stream.stream in
    let xs₀ = c.args.takes.now in
    let all : take c.loop-out.out-index (map take_of xs₀) ≡ map take_of xs₀ =
    take_all c.loop-out.out-index (map take_of xs₀) (omega (arith, length-map xs₀ take_of, c.loop-out-test.false, c.loop-out.auto.takes)) in record {
      walked = λ h led.
          subst (λ (qs : List Request). Walked (setup c.args.stream.now.stream.plan) w h qs (map slices xs₀) (map slices c.loop-out.takes) (map tells (vec_items c.args.replies.now)) (map tells (vec_items c.loop-out.replies)) (model_of s) s.reservation) all (inv.5 h led);
      plan = inv.1;
      requests = inv.2;
    }
