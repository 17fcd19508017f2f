use Rattle.std.proofs.Common.{◌≡◌, ℕ, ◌+◌, Bool, false, List, [], ◌∷◌, ◌++◌, map, length, Some, None, vec_items, vec_len, sym, ap, ◌∙◌, subst, append-nil, arith, length-append}
use Rattle.std.specs.Vec.{with_items}
use Rattle.std.proofs.lemmas.List.{length-map, with_items_is}
use Rattle.groups.specs.declared.plan.Plan.{Plan}
use Rattle.groups.specs.Plans.{settings_of, setup_of}
use Rattle.model.specs.Setups.{Setup}
use Rattle.model.specs.Machine.{Model}
use Rattle.model.specs.Steps as steps
use Rattle.model.specs.Steps.{finish, closed}
use Rattle.runs.specs.Noted.{noted, LeadsNoting}
use Rattle.stream.specs.Streams.{model_of, memory_of}
use Rattle.stream.specs.Calls.{Makes}
use Rattle.stream.proofs.Offering.{lawful_asks}
use Rattle.runs.specs.declared.script.Buffers.{Buffers}
use Rattle.runs.specs.declared.script.Call.{Call}
use Rattle.runs.specs.declared.script.Stage.TheVariants.{Reading, Closing}
use Rattle.runs.specs.declared.script.Script.{Script}
use Rattle.runs.specs.Scripts.{request_of, take_of, slices, call_slices, closing_requests, closing_slices, requests_of, tells}
use Rattle.runs.specs.Ran.{Staged, Walked, Ran}
use Rattle.runs.proofs.Running.{new_leads, told_finished, ran_reading, closed-leads, ran_closing}
use Rattle.runs.proofs.drive.run.Goals as goal

all_calls : (s : Script) → length (requests_of s) ≡ vec_len s.reading + length (closing_requests s.closing)
all_calls s =
    omega (arith, length-append (map request_of (vec_items s.reading)) (closing_requests s.closing), length-map (vec_items s.reading) request_of, s.reading.ok.0)

pub read-requires : goal.read-requires
read-requires g c =
    omega (arith, c.in-Ok.ensures.len, c.in-Ok.ensures.capacity, c.in-Ok.replies.small, c.len.ensures, all_calls c.args.script.now, c.deref_mut.ensures.len)

pub returns-in_default-closing : goal.returns-in_default-closing
returns-in_default-closing g c =
    let setup : Plan → Setup g.row.A-State.Denot = λ p. setup_of g.A.GroupsAccumulator.aggregation g.G.GroupValues.admitted p in
    let script = c.args.script.now in
    let begun = c.in_ok-stream.stream in
    let w = memory_of begun in
    let founded = c.in_ok-stream.ensures in
    let begins = founded.1 in
    let model = model_of begun in
    let s = c.read.new.stream in
    let m = model_of s in
    let xs = vec_items script.reading in
    let same_xs : c.deref_mut.result.now ≡ xs = c.deref_mut.ensures.value in
    let xs' = c.read.new.calls in
    let put_back : vec_items (with_items script.reading xs') ≡ xs' = with_items_is script.reading xs' (c.read.auto.calls ∙ c.deref_mut.ensures.len) in
    let rs = vec_items c.read.new.replies in
    let lawful = lawful_asks _ _ _ g.met.R.MemoryReservation.lawful in
    let walked : Walked (setup begun.plan) w [] (map request_of xs) (map call_slices xs) (map call_slices xs') [] (map tells rs) m s.reservation =
    subst (λ (ts : List (steps.Answer × ℕ × Bool)). Walked (setup begun.plan) w [] (map request_of xs) (map call_slices xs) (map call_slices xs') ts (map tells rs) m s.reservation) (ap (map tells) c.in-Ok.ensures.items)
    (subst (λ (zs : List Call). Walked (setup begun.plan) w [] (map request_of zs) (map call_slices zs) (map call_slices xs') (map tells (vec_items c.in-Ok.replies)) (map tells rs) m s.reservation) same_xs
    (c.read.ensures.walked []
    (new_leads (setup begun.plan) w model begun.reservation c.args.parts.reservation begins.model begins.reservation_is begins.empty begins.granted)
    (ap (λ (x : Model g.row.A-State.Denot). x.closing) begins.model))) in
    let kept : map request_of xs' ≡ map request_of xs = c.read.ensures.requests ∙ ap (map request_of) same_xs in
    let script' : Script = record { reading = with_items script.reading xs'; closing = script.closing } in
    let none : script.closing ≡ None = c.in_default-closing.is in
    let asked : (zs : List Call) → map request_of zs ++ closing_requests script.closing ≡ map request_of zs = λ zs.
    ap (λ x. map request_of zs ++ closing_requests x) none ∙ append-nil (map request_of zs) in
    let sliced : (zs : List Call) → map call_slices zs ++ closing_slices script.closing ≡ map call_slices zs = λ zs.
    ap (λ x. map call_slices zs ++ closing_slices x) none ∙ append-nil (map call_slices zs) in (
      founded.0,
      ap settings_of c.read.ensures.plan ∙ begins.settled,
      subst (λ x. Staged (Reading s) x) (sym none) tt,
      subst (λ (p : Plan). Ran (setup p) w script script' rs m s.reservation) (sym c.read.ensures.plan)
          (ran_reading (setup begun.plan) w begins.sensible lawful script script' xs xs' rs m s.reservation walked kept
          (asked xs) (sliced xs) (ap (λ (zs : List Call). map request_of zs ++ closing_requests script.closing) put_back ∙ asked xs') (ap (λ (zs : List Call). map call_slices zs ++ closing_slices script.closing) put_back ∙ sliced xs')),
    )

pub push_reserved-requires : goal.push_reserved-requires
push_reserved-requires g c =
    let script = c.args.script.now in
    omega (
      arith,
      c.in-Ok.ensures.len,
      c.in-Ok.ensures.capacity,
      c.in-Ok.replies.small,
      c.len.ensures,
      all_calls script,
      c.deref_mut.ensures.len,
      c.read.ensures.len,
      c.read.ensures.capacity,
      ap (λ x. length (closing_requests x)) c.in-Some.is,
    )

pub drain-requires : goal.drain-requires
drain-requires g c =
    let script = c.args.script.now in
    omega (
      arith,
      c.in-Ok.ensures.len,
      c.in-Ok.ensures.capacity,
      c.in-Ok.replies.small,
      c.len.ensures,
      all_calls script,
      c.deref_mut.ensures.len,
      c.read.ensures.len,
      c.read.ensures.capacity,
      ap (λ x. length (closing_requests x)) c.in-Some.is,
      c.push_reserved.ensures.len,
      c.push_reserved.ensures.capacity,
      c.deref_mut-2.ensures.len,
      length-map (vec_items c.in-Some.takes) take_of,
      c.in-Some.takes.ok.0,
    )

pub returns : goal.returns
returns g c =
    let setup : Plan → Setup g.row.A-State.Denot = λ p. setup_of g.A.GroupsAccumulator.aggregation g.G.GroupValues.admitted p in
    let script = c.args.script.now in
    let begun = c.in_ok-stream.stream in
    let w = memory_of begun in
    let founded = c.in_ok-stream.ensures in
    let begins = founded.1 in
    let model = model_of begun in
    let s = c.read.new.stream in
    let m = model_of s in
    let xs = vec_items script.reading in
    let same_xs : c.deref_mut.result.now ≡ xs = c.deref_mut.ensures.value in
    let xs' = c.read.new.calls in
    let put_back : vec_items (with_items script.reading xs') ≡ xs' = with_items_is script.reading xs' (c.read.auto.calls ∙ c.deref_mut.ensures.len) in
    let rs = vec_items c.read.new.replies in
    let lawful = lawful_asks _ _ _ g.met.R.MemoryReservation.lawful in
    let walked : Walked (setup begun.plan) w [] (map request_of xs) (map call_slices xs) (map call_slices xs') [] (map tells rs) m s.reservation =
    subst (λ (ts : List (steps.Answer × ℕ × Bool)). Walked (setup begun.plan) w [] (map request_of xs) (map call_slices xs) (map call_slices xs') ts (map tells rs) m s.reservation) (ap (map tells) c.in-Ok.ensures.items)
    (subst (λ (zs : List Call). Walked (setup begun.plan) w [] (map request_of zs) (map call_slices zs) (map call_slices xs') (map tells (vec_items c.in-Ok.replies)) (map tells rs) m s.reservation) same_xs
    (c.read.ensures.walked []
    (new_leads (setup begun.plan) w model begun.reservation c.args.parts.reservation begins.model begins.reservation_is begins.empty begins.granted)
    (ap (λ (x : Model g.row.A-State.Denot). x.closing) begins.model))) in
    let kept : map request_of xs' ≡ map request_of xs = c.read.ensures.requests ∙ ap (map request_of) same_xs in
    let takes = c.in-Some.takes in
    let some : script.closing ≡ Some takes = c.in-Some.is in
    let ys = vec_items takes in
    let ys' = c.drain.new.takes in
    let same_ys : c.deref_mut-2.result.now ≡ ys = c.deref_mut-2.ensures.value in
    let script' : Script = record { reading = with_items script.reading xs'; closing = Some (with_items takes ys') } in
    let put_takes : vec_items (with_items takes ys') ≡ ys' = with_items_is takes ys' (c.drain.auto.takes ∙ c.deref_mut-2.ensures.len) in
    let t = c.finish-closing.result.stream in
    let n = model_of t in
    let z = c.drain.new.stream.stream in
    let last = model_of z in
    let plan : t.plan ≡ begun.plan = c.finish-closing.ensures.plan ∙ c.read.ensures.plan in
    let closes = subst (λ (p : Plan). Makes (setup p) w m s.reservation finish closed [] n t.reservation) c.read.ensures.plan (c.finish-closing.ensures.finishes) in
    let reads : m.closing ≡ false = c.read.ensures.closing ∙ ap (λ (x : Model g.row.A-State.Denot). x.closing) begins.model in
    let rs₂ = vec_items c.push_reserved.new.self in
    let reply = c.reply.result in
    let tells-so : tells reply ≡ (closed, w.bytes t.reservation, w.granted t.reservation) =
    told_finished reply (w.bytes t.reservation) (w.granted t.reservation) c.reply.ensures.answer (c.reply.ensures.bytes ∙ ap (λ x. w.bytes x) c.reservation.ensures)
    (c.reply.ensures.granted ∙ ap (λ x. w.granted x) c.reservation.ensures) in
    let led = closed-leads (setup begun.plan) w begins.sensible lawful script script' xs xs' rs m s.reservation walked kept n t.reservation closes reads rs₂ reply c.push_reserved.ensures.items tells-so in
    let history = noted finish closed [] (w.bytes t.reservation) (w.granted t.reservation) ∷ walked.events in
    let rs₃ = vec_items c.drain.new.replies in
    let drained : Walked (setup begun.plan) w history (map take_of ys) (map slices ys) (map slices ys') (map tells rs₂) (map tells rs₃) last z.reservation =
    subst (λ (zs : List Buffers). Walked (setup begun.plan) w history (map take_of zs) (map slices zs) (map slices ys') (map tells rs₂) (map tells rs₃) last z.reservation) same_ys
    (subst (λ (p : Plan).
    LeadsNoting (setup p) w history n t.reservation
    → Walked (setup p) w history (map take_of c.deref_mut-2.result.now) (map slices c.deref_mut-2.result.now) (map slices ys') (map tells rs₂) (map tells rs₃) last z.reservation) plan
    (λ leads. c.drain.ensures.walked history leads) led) in
    let asked : map request_of xs ++ closing_requests script.closing ≡ map request_of xs ++ finish ∷ map take_of ys = ap (λ x. map request_of xs ++ closing_requests x) some in
    let sliced : map call_slices xs ++ closing_slices script.closing ≡ map call_slices xs ++ ([], []) ∷ map slices ys = ap (λ x. map call_slices xs ++ closing_slices x) some in (
      founded.0,
      ap settings_of (c.drain.ensures.plan ∙ plan) ∙ begins.settled,
      subst (λ x. Staged (Closing c.drain.new.stream) x) (sym some) tt,
      subst (λ (p : Plan). Ran (setup p) w script script' rs₃ last z.reservation) (sym (c.drain.ensures.plan ∙ plan))
          (ran_closing (setup begun.plan) w begins.sensible lawful script script' xs xs' rs m s.reservation walked kept n t.reservation closes reads rs₂ reply c.push_reserved.ensures.items tells-so
          ys ys' rs₃ last z.reservation drained (c.drain.ensures.requests ∙ ap (map take_of) same_ys) asked sliced
          (ap (λ (zs : List Call). map request_of zs ++ finish ∷ map take_of (vec_items (with_items takes ys'))) put_back ∙ ap (λ (zs : List Buffers). map request_of xs' ++ finish ∷ map take_of zs) put_takes)
          (ap (λ (zs : List Call). map call_slices zs ++ ([], []) ∷ map slices (vec_items (with_items takes ys'))) put_back ∙ ap (λ (zs : List Buffers). map call_slices xs' ++ ([], []) ∷ map slices zs) put_takes)),
    )
