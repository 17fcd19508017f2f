-- What an accepted offer leaves.
use Rattle.std.proofs.Common.{◌≡◌, ℕ, ◌+◌, Bool, true, false, ◌&&◌, ltb, ◌⊎◌, List, [], ◌∷◌, ◌++◌, length, Some, None, Option, sym, refl, ap, ◌∙◌, subst, inl, inr, append-nil, arith}
use Rattle.std.specs.Option.{option_map}
use Rattle.std.proofs.lemmas.List.{nil_from_length}
use Rattle.std.proofs.lemmas.Bool.{cond_both, and_cases, ltb-false, true≢false, both_ways}
use Rattle.cells.specs.Rows.{CellOf}
use Rattle.cells.specs.declared.emit_to.EmitTo.{EmitTo}
use Rattle.cells.specs.declared.emit_to.EmitTo.TheVariants.{All}
use Rattle.order.specs.Orders.{Mode, linear, sorted, partially, emit_to_in, emit_to, oom_emit_to}
use Rattle.order.specs.Skip.{told}
use Rattle.model.specs.Setups.{Setup, is_linear, probes, need}
use Rattle.model.specs.Machine.{Phase, grouping, bypassing, Model, with_probe, with_rows, with_held, count, says, absorbed}
use Rattle.model.specs.Steps.{accepted, Outcome, outcome, ended, emits_asking, wanted, no_memory, emits_if, reserved, probed, prefixed, limited, settled, grouped, bypassed}
use Rattle.model.specs.Runs.{accepted_by, waiting_in}
use Rattle.model.proofs.Cases.{never}
use Rattle.model.specs.Law.{Sensible}
use Rattle.model.proofs.Booked.{Booked, booked_absorbed, booked_converted}
use Rattle.model.proofs.Moves.{left-nil}
use Rattle.model.proofs.Faultless.{Roomy}
use Rattle.model.proofs.Ends.{Flags, Skips, skips, Good, emits-good, ended_good}

module _ {S : Type 0} (u : Setup S) where
  -- an offer of some rows came to this: it took them, and handed out nothing
  pub record Took (rows out more : List (List CellOf)) (o : Outcome S) : Type 0 where
    pub good : Good u rows out o.model
    pub all : accepted_by u.settings.columns o.answer more ≡ more
    pub quiet : o.out ≡ []

  -- a stream that groups, and goes on
  pub record Running (rows out : List (List CellOf)) (m : Model S) : Type 0 where
    pub booked : Booked u rows out m.held
    pub groups : m.phase ≡ grouping
    pub unended : m.ended ≡ false
    pub unprobed : probes u.settings ≡ false → m.probe ≡ None

never_ended : {P : Type 0} (b : Bool) → b ≡ false → b ≡ true → P
never_ended b e f = absurd (both_ways b e f)

-- without a declared order no prefix is finished
no_prefix : (m : Mode) → is_linear m ≡ true → (mark : ℕ) (over : Bool) → emit_to_in m mark over ≡ None
no_prefix linear e mark over = refl
no_prefix sorted e mark over = absurd (true≢false (sym e))
no_prefix (partially positions) e mark over = absurd (true≢false (sym e))

module _ {S : Type 0} (u : Setup S) (fine : Sensible u) {rows out : List (List CellOf)} (more : List (List CellOf)) where
  module _ (m : Model S) (r : Running u rows out m) where
    emits-took : (to : EmitTo) (a : List (ℕ × Bool)) (g : Bool) → (says m.probe ≡ true → m.held.keys ≡ []) → Took u rows out more (emits_asking u to m a g)
    emits-took to a g skipped = record {
      good = emits-good u fine m r.booked r.unprobed to (never_ended m.ended r.unended) (λ said. left-nil to m.held.keys (skipped said));
      all = refl;
      quiet = refl;
    }

    stays : (says m.probe ≡ true → m.held.keys ≡ []) → Good u rows out m
    stays skipped = (
      subst (λ (xs : List (List CellOf)). Booked u rows xs m.held) (sym (ap (λ (p : Phase). out ++ waiting_in p) r.groups ∙ append-nil out)) r.booked,
      record {
        over = never_ended m.ended r.unended;
        skipped = skipped;
        passing = λ e. let is = r.groups in never (cc);
        at_end = λ e. let is = r.groups in never (cc);
        unprobed = r.unprobed;
      },
    )

    emits_if-took : (o : Option EmitTo) (h : Bool) → (says m.probe ≡ true → m.held.keys ≡ []) → Took u rows out more (emits_if u o m h)
    emits_if-took None h skipped = record { good = stays skipped; all = refl; quiet = refl }
    emits_if-took (Some to) h skipped = emits-took to ((need u (count m), false) ∷ []) h skipped

    reserved-took : (g h : Bool) → (says m.probe ≡ true → m.held.keys ≡ []) → Took u rows out more (reserved u m g h)
    reserved-took true h skipped = record { good = stays skipped; all = refl; quiet = refl }
    reserved-took false h skipped =
        let to : Option EmitTo = oom_emit_to m.held.order (wanted u.settings.batch_size (count m)) in
        cond_both (u.settings.partial && ltb 1 (count m)) (emits_if u to m h) (no_memory u m) (Took u rows out more)
        (λ _. emits_if-took to h skipped) (λ _. record { good = stays skipped; all = refl; quiet = refl })

  module _ (m : Model S) (r : Running u rows out m) where
    probed-took : (n : ℕ) (g h : Bool) → Took u rows out more (probed u m n g h)
    probed-took n g h =
        cond_both (says next.probe && ltb 0 (count next)) (emits_asking u All next [] g) (reserved u next g h) (Took u rows out more)
        (λ _. record { good = emits-good u fine next r.booked still.unprobed All (λ _. refl) (λ _. refl); all = refl; quiet = refl })
        (λ e. reserved-took next still g h (λ said. empty said (and_cases (says next.probe) (ltb 0 (count next)) e)))
      where
        next : Model S
        next = with_probe m (option_map (λ p. told p n (count m)) m.probe)

        still : Running u rows out next
        still = record {
          booked = r.booked;
          groups = r.groups;
          unended = r.unended;
          unprobed = λ e. ap (option_map (λ p. told p n (count m))) (r.unprobed e);
        }

        empty : says next.probe ≡ true → (says next.probe ≡ false) ⊎ (ltb 0 (count next) ≡ false) → m.held.keys ≡ []
        empty said (inl e) = absurd (both_ways (says next.probe) e said)
        empty said (inr e) = let few = ltb-false 0 (count next) e in nil_from_length m.held.keys (omega arith)

    skipping : says m.probe ≡ true → Skips u
    skipping said = skips u m.probe r.unprobed said

    prefixed-took : (o : Option EmitTo) → emit_to m.held.order ≡ o → (n : ℕ) (g h : Bool) → Took u rows out more (prefixed u o m n g h)
    prefixed-took (Some to) e n g h =
        emits-took m r to [] g
        (λ said.
        let free : is_linear m.held.order.mode ≡ true = ap is_linear r.booked.fit.mode ∙ (skipping said).unordered in
        let no_one = no_prefix m.held.order.mode free m.held.order.mark m.held.order.ended in
        never (cc))
    prefixed-took None e n g h =
        cond_both u.settings.partial (probed u m n g h) (reserved u m g h) (Took u rows out more)
        (λ _. probed-took n g h) (λ whole. reserved-took m r g h (λ said. absurd (both_ways u.settings.partial whole (skipping said).partial)))

    settled-took : (n : ℕ) (g h : Bool) → Took u rows out more (settled u m n g h)
    settled-took n g h =
        cond_both (limited u.settings.soft_limit (count m)) (outcome (ended u m g).0 accepted [] (ended u m g).1)
        (prefixed u (emit_to m.held.order) m n g h) (Took u rows out more)
        (λ _. record { good = ended_good u fine m r.booked r.unprobed g; all = refl; quiet = refl })
        (λ _. prefixed-took (emit_to m.held.order) refl n g h)

module _ {S : Type 0} (u : Setup S) (fine : Sensible u) {rows out : List (List CellOf)} (m : Model S) (more : List (List CellOf)) where
  -- while grouping
  pub grouped_took : Running u rows out m → Roomy u m more → (g h : Bool) → Took u (rows ++ more) out more (grouped u m more g h)
  grouped_took r free g h =
      settled-took u fine more (with_rows (with_held m (absorbed u m.held more)) (m.rows + length more))
      (record {
        booked = booked_absorbed u fine r.booked more free.admits free.room;
        groups = r.groups;
        unended = r.unended;
        unprobed = r.unprobed;
      })
      (length more) g h

  -- while bypassing
  pub bypassed-took : Booked u rows out m.held → Flags u m → m.phase ≡ bypassing → Took u (rows ++ more) out more (bypassed u m more)
  bypassed-took b f is =
      let said : says m.probe ≡ true = f.passing is in
      record {
        good = (
          booked_converted u fine b more (f.skipped said) (skips u m.probe f.unprobed said).alone,
          record {
            over = f.over;
            skipped = f.skipped;
            passing = λ e. never (cc);
            at_end = λ e. never (cc);
            unprobed = f.unprobed;
          },
        );
        all = refl;
        quiet = refl;
      }
