-- Every run is traced: by induction over its history, call by call.
use Rattle.std.proofs.Common.{◌≡◌, ℕ, ◌*◌, Bool, true, false, cond, ◌&&◌, eqb, leb, List, [], ◌∷◌, ◌++◌, length, take, drop, ℤ, Some, None, Option, sym, refl, ap, ◌∙◌, subst, append_assoc, append-nil, arith}
use Rattle.std.proofs.lemmas.List.{take-append-drop}
use Rattle.std.proofs.lemmas.Bool.{cond_both, cond-false}
use Rattle.cells.specs.Refusals.{Refusal, refusal}
use Rattle.cells.specs.Rows.{CellOf}
use Rattle.cells.specs.Views.{rows_in}
use Rattle.group_values.specs.TablesLemmas.{distinct_none}
use Rattle.order.specs.Skip.{fresh}
use Rattle.model.specs.Setups.{Setup, probes, out_width}
use Rattle.model.specs.Machine.{Phase, grouping, waiting, bypassing, stopped, Model, with_phase, as_closing, says, start}
use Rattle.model.specs.Steps.{Request, offer, finish, Answer, refused, nothing, Outcome, outcome, unaltered, offer_fault, grouped, bypassed, ended, accepted_in, offered_if, offered, emptied, piece, passed_on, taken_in, taken, finished_in, finished, step}
use Rattle.model.specs.Steps as steps
use Rattle.model.specs.Runs.{Reservation, Event, event, Leads, accepted_rows, handed_out, waiting_in}
use Rattle.model.specs.Runs as runs
use Rattle.model.proofs.Cases.{never}
use Rattle.model.specs.Law.{Sensible}
use Rattle.model.proofs.Traced.{Traced}
use Rattle.model.proofs.Booked.{Booked}
use Rattle.model.proofs.Faultless.{Not14, not14, unended, roomy}
use Rattle.model.proofs.Ends.{Flags, skips, Good, ended_good}
use Rattle.model.proofs.Offers.{Took, grouped_took, bypassed-took}

abbrev accepts : {S : Type 0} → Setup S → List Event → List (List CellOf)
accepts u h = accepted_rows u.settings.columns h

module _ {S : Type 0} (u : Setup S) where
  -- ---- a trace is books and flags

  pub good : (h : List Event) (m : Model S) → Traced u h m → Good u (accepts u h) (handed_out h) m
  good h m t = (
    record {
      trace = t.trace;
      out = t.rows;
      joined = t.joined;
      trace_sound = t.trace_sound;
      trace_wide = t.trace_wide;
      fit = record { sound = t.held_sound; wide = t.held_wide; aligned = t.aligned; apart = t.apart; bounded = t.bounded; mode = t.mode };
    },
    record { over = t.over; skipped = t.skipped; passing = t.passing; at_end = t.at_end; unprobed = t.unprobed },
  )

  traced_by : (h : List Event) (m : Model S) → Good u (accepts u h) (handed_out h) m → Traced u h m
  traced_by h m g =
      let b : Booked u (accepts u h) (handed_out h ++ waiting_in m.phase) m.held = g.0 in
      let f : Flags u m = g.1 in
      record {
        trace = b.trace;
        rows = b.out;
        joined = b.joined;
        trace_sound = b.trace_sound;
        held_sound = b.fit.sound;
        trace_wide = b.trace_wide;
        held_wide = b.fit.wide;
        aligned = b.fit.aligned;
        apart = b.fit.apart;
        bounded = b.fit.bounded;
        over = f.over;
        skipped = f.skipped;
        passing = f.passing;
        at_end = f.at_end;
        probing = λ said. (skips u m.probe f.unprobed said).partial;
        unprobed = f.unprobed;
        mode = b.fit.mode;
      }

  -- ---- a call that comes to an outcome

  -- after a history, the call and its outcome are traced
  abbrev Next : List Event → Request → Outcome S → Type 0
  Next h q o = Traced u (event q o.answer o.out ∷ h) o.model

  module _ (h : List Event) (m : Model S) (t : Traced u h m) where
    -- a call that accepts no row
    next : (q : Request) (o : Outcome S) → runs.accepted_in u.settings.columns q o.answer ≡ []
        → Good u (accepts u h) (handed_out h ++ o.out) o.model → Next h q o
    next q o none g =
        let kept : accepts u h ++ runs.accepted_in u.settings.columns q o.answer ≡ accepts u h =
        ap (λ (xs : List (List CellOf)). accepts u h ++ xs) none ∙ append-nil (accepts u h) in
        traced_by (event q o.answer o.out ∷ h) o.model
        (subst (λ (xs : List (List CellOf)). Good u xs (handed_out h ++ o.out) o.model) (sym kept) g)

    -- and hands out none either, and leaves the stream
    same : (q : Request) (a : Answer) → runs.accepted_in u.settings.columns q a ≡ [] → Next h q (outcome m a [] [])
    same q a none =
        next q (outcome m a [] []) none
        (subst (λ (xs : List (List CellOf)). Good u (accepts u h) xs m) (sym (append-nil (handed_out h))) (good h m t))

    -- nothing waits
    empty-books : waiting_in m.phase ≡ [] → Booked u (accepts u h) (handed_out h) m.held
    empty-books none =
        subst (λ (xs : List (List CellOf)). Booked u (accepts u h) xs m.held)
        (ap (λ (xs : List (List CellOf)). handed_out h ++ xs) none ∙ append-nil (handed_out h)) (good h m t).0

    -- another phase
    rephased : (p : Phase) → (p ≡ bypassing → says m.probe ≡ true) → (p ≡ stopped → m.ended ≡ true) → Flags u (with_phase m p)
    rephased p passing at_end = record { over = t.over; skipped = t.skipped; passing = passing; at_end = at_end; unprobed = t.unprobed }

module _ {S : Type 0} (u : Setup S) (fine : Sensible u) (h : List Event) (m : Model S) (t : Traced u h m) where
  -- ---- offer

  took_next : (values : List ℤ) (flags : List ℕ) (o : Outcome S)
      → Took u (accepts u h ++ rows_in u.settings.columns values flags) (handed_out h) (rows_in u.settings.columns values flags) o
      → Next u h (offer values flags) o
  took_next values flags o k =
      let C : ℕ = u.settings.columns in
      let all : accepts u h ++ rows_in C values flags ≡ accepts u h ++ runs.accepted_in C (offer values flags) o.answer =
      ap (λ (xs : List (List CellOf)). accepts u h ++ xs) (sym k.all) in
      let quiet : handed_out h ≡ handed_out h ++ o.out = sym (ap (λ (xs : List (List CellOf)). handed_out h ++ xs) k.quiet ∙ append-nil (handed_out h)) in
      traced_by u (event (offer values flags) o.answer o.out ∷ h) o.model
      (subst (λ (xs : List (List CellOf)). Good u xs (handed_out h ++ o.out) o.model) all
      (subst (λ (xs : List (List CellOf)). Good u (accepts u h ++ rows_in C values flags) xs o.model) quiet k.good))

  offered-next : (values : List ℤ) (flags : List ℕ) (g g' : Bool) → Next u h (offer values flags) (offered u m values flags g g')
  offered-next values flags g g' = by_fault (offer_fault u m values flags) refl
    where
      rows : List (List CellOf)
      rows = rows_in u.settings.columns values flags

      by_phase : offer_fault u m values flags ≡ None → (p : Phase) → m.phase ≡ p → Next u h (offer values flags) (accepted_in u p m rows g g')
      by_phase clean grouping is =
          took_next values flags (grouped u m rows g g')
          (grouped_took u fine m rows
          (record { booked = empty-books u h m t (ap waiting_in is); groups = is; unended = unended u m values flags clean; unprobed = t.unprobed })
          (roomy u m values flags is clean) g g')
      by_phase clean bypassing is =
          took_next values flags (bypassed u m rows)
          (bypassed-took u fine m rows (empty-books u h m t (ap waiting_in is)) (good u h m t).1 is)
      by_phase clean (waiting ws whole) is = same u h m t (offer values flags) (refused (refusal 8 [])) refl
      by_phase clean stopped is = same u h m t (offer values flags) (refused (refusal 7 [])) refl

      by_fault : (o : Option Refusal) → offer_fault u m values flags ≡ o → Next u h (offer values flags) (offered_if u o m rows g g')
      by_fault (Some e) f =
          same u h m t (offer values flags) (refused e)
          (cond-false (eqb e.number 14) rows [] (subst Not14 f (not14 u m values flags)))
      by_fault None f = by_phase f m.phase refl

  -- ---- take

  module _ (out : List (List CellOf)) (b : Booked u (accepts u h) out m.held) where
    idle : (p : Phase) → waiting_in p ≡ [] → Booked u (accepts u h) (out ++ waiting_in p) m.held
    idle p none =
        subst (λ (xs : List (List CellOf)). Booked u (accepts u h) xs m.held)
        (sym (ap (λ (xs : List (List CellOf)). out ++ xs) none ∙ append-nil out)) b

    Emptied : Model S × List (ℕ × Bool) → Type 0
    Emptied x = Good u (accepts u h) out x.0

    resumes : (t' : Bool) → says m.probe ≡ t' → Good u (accepts u h) out (with_phase m (cond t' bypassing grouping))
    resumes true said = (idle bypassing refl, rephased u h m t bypassing (λ _. said) (λ e. never (cc)))
    resumes false said =
        (idle grouping refl, rephased u h m t grouping (λ e. never (cc)) (λ e. never (cc)))

    emptied-good : (g : Bool) → Good u (accepts u h) out (emptied u m g).0
    unfolding Emptied
    emptied-good g =
        cond_both m.ended (with_phase m stopped, []) (cond m.closing (ended u m g) (with_phase m (cond (says m.probe) bypassing grouping), [])) Emptied
        (λ over. (idle stopped refl, rephased u h m t stopped (λ e. never (cc)) (λ _. over)))
        (λ _. cond_both m.closing (ended u m g) (with_phase m (cond (says m.probe) bypassing grouping), []) Emptied
        (λ _. ended_good u fine m b t.unprobed g) (λ _. resumes (says m.probe) refl))

  passed_on-next : (v f : ℕ) (out rest : List (List CellOf)) (g : Bool) → out ++ rest ≡ waiting_in m.phase → Next u h (steps.take v f) (passed_on u m out rest g)
  passed_on-next v f out [] g e =
      next u h m t (steps.take v f) (passed_on u m out [] g) refl
      (emptied-good (handed_out h ++ out)
      (subst (λ (xs : List (List CellOf)). Booked u (accepts u h) (handed_out h ++ xs) m.held) (sym e ∙ append-nil out) (good u h m t).0) g)
  passed_on-next v f out (row ∷ rest) g e =
      next u h m t (steps.take v f) (passed_on u m out (row ∷ rest) g) refl (
        subst (λ (xs : List (List CellOf)). Booked u (accepts u h) xs m.held)
            (ap (λ (xs : List (List CellOf)). handed_out h ++ xs) (sym e) ∙ sym (append_assoc (handed_out h) out (row ∷ rest))) (good u h m t).0,
        rephased u h m t (waiting (row ∷ rest) false) (λ e. never (cc)) (λ e. never (cc)),
      )

  taken_next : (v f : ℕ) (g : Bool) → Next u h (steps.take v f) (taken u m v f g)
  taken_next v f g = by_phase m.phase refl
    where
      by_phase : (p : Phase) → m.phase ≡ p → Next u h (steps.take v f) (taken_in u p m v f g)
      by_phase grouping is = same u h m t (steps.take v f) nothing refl
      by_phase bypassing is = same u h m t (steps.take v f) nothing refl
      by_phase stopped is = same u h m t (steps.take v f) nothing refl
      by_phase (waiting ws whole) is =
          let n : ℕ = piece u.settings.batch_size whole (length ws) in
          cond_both (leb (n * out_width u) v && leb (n * out_width u) f) (passed_on u m (take n ws) (drop n ws) g) (unaltered m (refusal 15 [])) (Next u h (steps.take v f))
          (λ _. passed_on-next v f (take n ws) (drop n ws) g (take-append-drop n ws ∙ sym (ap waiting_in is)))
          (λ _. same u h m t (steps.take v f) (refused (refusal 15 [])) refl)

  -- ---- finish

  finished-next : (g : Bool) → Next u h finish (finished u m g)
  finished-next g =
      next u h m t finish (finished u m g) refl
      (subst (λ (xs : List (List CellOf)). Good u (accepts u h) xs (finished_in u m.phase (as_closing m) g).0) (sym (append-nil (handed_out h)))
      (by_phase m.phase refl))
    where
      stays : Good u (accepts u h) (handed_out h) (as_closing m)
      stays = ((good u h m t).0, record { over = t.over; skipped = t.skipped; passing = t.passing; at_end = t.at_end; unprobed = t.unprobed })

      by_phase : (p : Phase) → m.phase ≡ p → Good u (accepts u h) (handed_out h) (finished_in u p (as_closing m) g).0
      by_phase grouping is = ended_good u fine (as_closing m) (empty-books u h m t (ap waiting_in is)) t.unprobed g
      by_phase bypassing is = ended_good u fine (as_closing m) (empty-books u h m t (ap waiting_in is)) t.unprobed g
      by_phase stopped is = stays
      by_phase (waiting ws whole) is = stays

  step-next : (q : Request) (g g' : Bool) → Next u h q (step u m q g g')
  step-next (offer values flags) g g' = offered-next values flags g g'
  step-next (steps.take v f) g g' = taken_next v f g
  step-next finish g g' = finished-next g

-- ---- a run

traced_start : {S : Type 0} (u : Setup S) → Traced u [] (start u)
traced_start u = traced_by u [] (start u) (
  record {
    trace = [];
    out = refl;
    joined = λ k. refl;
    trace_sound = tt;
    trace_wide = tt;
    fit = record { sound = tt; wide = tt; aligned = refl; apart = distinct_none; bounded = omega arith; mode = refl };
  },
  record {
    over = λ _. refl;
    skipped = λ _. refl;
    passing = λ e. never (cc);
    at_end = λ e. never (cc);
    unprobed = λ e. cond-false (probes u.settings) (Some (fresh u.settings.probe_rows u.settings.probe_ratio)) None e;
  },
)

pub traced : {S R : Type 0} (u : Setup S) (w : Reservation R) → Sensible u → (h : List Event) (m : Model S) (r : R) → Leads u w h m r → Traced u h m
traced {S} u w fine [] m r l = subst (λ (x : Model S). Traced u [] x) (sym l.0) (traced_start u)
traced {S} u w fine (e ∷ h) m r l =
    let P : Outcome S → Type 0 = Next u h e.request in
    subst P l.7 (step-next u fine h l.0 (traced u w fine h l.0 l.1 l.5) e.request l.2 l.3)
