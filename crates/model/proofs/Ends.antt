-- What is known of a stream's flags, and what an emission and the end step leave.
use Rattle.std.proofs.Common.{◌≡◌, ℕ, Bool, true, false, cond, not, ◌&&◌, List, [], ◌∷◌, ◌++◌, None, Option, sym, refl, ap, ◌∙◌, subst, inl, inr, append-nil}
use lib.Ieee.{lt, round, binary64}
use Rattle.std.proofs.lemmas.Bool.{cases_Bool, and_parts, not-true, false≢true, true≢false}
use Rattle.cells.specs.Rows.{CellOf}
use Rattle.cells.specs.Emits.{left}
use Rattle.cells.specs.declared.emit_to.EmitTo.{EmitTo}
use Rattle.cells.specs.declared.emit_to.EmitTo.TheVariants.{All}
use Rattle.order.specs.Skip.{Probe}
use Rattle.model.specs.Setups.{Setup, is_linear, probes, need}
use Rattle.model.specs.Machine.{bypassing, stopped, Model, with_phase, says, none, emits}
use Rattle.model.specs.Steps.{ending, ended}
use Rattle.model.specs.Runs.{waiting_in}
use Rattle.model.specs.Law.{Sensible}
use Rattle.model.proofs.Cases.{never}
use Rattle.model.proofs.Booked.{Booked}
use Rattle.model.proofs.Moves.{booked_emitted, booked_done, booked_totalled}

pub record Flags {S : Type 0} (u : Setup S) (m : Model S) : Type 0 where
  pub over : m.ended ≡ true → m.held.keys ≡ []
  pub skipped : says m.probe ≡ true → m.held.keys ≡ []
  pub passing : m.phase ≡ bypassing → says m.probe ≡ true
  pub at_end : m.phase ≡ stopped → m.ended ≡ true
  pub unprobed : probes u.settings ≡ false → m.probe ≡ None

none_nil : {X : Type 0} (xs : List X) → none xs ≡ true → xs ≡ []
none_nil [] e = refl
none_nil (x ∷ xs) e = absurd (false≢true e)

module _ {S : Type 0} (u : Setup S) where
  -- a probe that says skip runs: in Partial mode, without a declared order and without grouping sets
  pub record Skips : Type 0 where
    pub partial : u.settings.partial ≡ true
    pub unordered : is_linear u.settings.order ≡ true
    pub alone : u.settings.group_by.grouped ≡ false

  pub skips : (p : Option Probe) → (probes u.settings ≡ false → p ≡ None) → says p ≡ true → Skips
  skips p unprobed said =
      let runs : probes u.settings ≡ true =
      elim (cases_Bool (probes u.settings)) [ inl e ↦ e | inr e ↦ absurd (true≢false (sym said ∙ ap says (unprobed e))) ] in
      let few : Bool = lt u.settings.probe_ratio (round binary64 false 1 1) in
      let two = and_parts (u.settings.partial && is_linear u.settings.order) (not u.settings.group_by.grouped && few) runs in
      let first = and_parts u.settings.partial (is_linear u.settings.order) two.0 in
      record {
        partial = first.0;
        unordered = first.1;
        alone = not-true u.settings.group_by.grouped (and_parts (not u.settings.group_by.grouped) few two.1).0;
      }

  -- the books and the flags of a stream, with what was handed out
  abbrev pub Good : List (List CellOf) → List (List CellOf) → Model S → Type 0
  Good rows out m = Booked u rows (out ++ waiting_in m.phase) m.held × Flags u m

module _ {S : Type 0} (u : Setup S) (fine : Sensible u) {rows out : List (List CellOf)} (m : Model S) (b : Booked u rows out m.held)
    (unprobed : probes u.settings ≡ false → m.probe ≡ None) where
  pub emits-good : (to : EmitTo) → (m.ended ≡ true → left to m.held.keys ≡ []) → (says m.probe ≡ true → left to m.held.keys ≡ [])
      → Good u rows out (emits u to m)
  emits-good to over skipped = (
    booked_emitted u fine b to,
    record {
      over = over;
      skipped = skipped;
      passing = λ e. never (cc);
      at_end = λ e. never (cc);
      unprobed = unprobed;
    },
  )

  pub ended_good : (g : Bool) → Good u rows out (ended u m g).0
  ended_good g = go (none n.held.keys) refl
    where
      n : Model S
      n = ending u m

      books : Booked u rows out n.held
      books = booked_totalled u fine (booked_done u fine b)

      go : (t : Bool) → none n.held.keys ≡ t → Good u rows out (cond {A = Model S × List (ℕ × Bool)} t (with_phase n stopped, []) (emits u All n, (need u 0, g) ∷ [])).0
      go true e = (
        subst (λ (xs : List (List CellOf)). Booked u rows xs n.held) (sym (append-nil out)) books,
        record {
          over = λ _. none_nil n.held.keys e;
          skipped = λ _. none_nil n.held.keys e;
          passing = λ e. never (cc);
          at_end = λ _. refl;
          unprobed = unprobed;
        },
      )
      go false e = (
        booked_emitted u fine books All,
        record {
          over = λ _. refl;
          skipped = λ _. refl;
          passing = λ e. never (cc);
          at_end = λ _. refl;
          unprobed = unprobed;
        },
      )
