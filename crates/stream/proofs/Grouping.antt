-- A batch is grouped, or passed on, as is defined.
use Rattle.std.proofs.Common.{◌≡◌, ℕ, ◌+◌, Bool, true, List, [], length, sym, refl, ap, ◌∙◌}
use Rattle.cells.specs.Rows.{CellOf}
use Rattle.cells.specs.Views.{view_rows}
use Rattle.model.specs.Setups.{Setup}
use Rattle.model.specs.Machine.{Groups, Model, Phase, waiting, with_held, with_rows, with_phase, as_closing, absorbed, converted}
use Rattle.model.specs.Steps.{Answer, accepted, closed, Outcome, outcome, settled, grouped, bypassed, accepted_in, finished_in, finished}
use Rattle.model.specs.Runs.{Reservation}
use Rattle.stream.specs.declared.state.InputEvent.{InputEvent}
use Rattle.stream.specs.declared.state.InputEvent.TheVariants.{Batch, End}
use Rattle.stream.specs.Streams.{handled, Comes}
use Rattle.stream.proofs.Settling.{comes_as}

module _ {S R : Type 0} (u : Setup S) (w : Reservation R) (m : Model S) (rows : List (List CellOf)) (k : ℕ) (all : k ≡ length rows) where
  pub grouped_comes : (k₂ : ℕ) → k₂ ≡ length rows → (held : Groups S) → held ≡ absorbed u m.held rows → (r : R) (m' : Model S) (r' : R) (a : Answer)
      → Comes w (settled u (with_rows (with_held m held) (m.rows + k)) k₂) r m' r' a [] → Comes w (grouped u m rows) r m' r' a []
  grouped_comes k₂ all₂ held is r m' r' a =
      comes_as u w (grouped u m rows) (settled u (with_rows (with_held m held) (m.rows + k)) k₂)
      (λ x y.
      ap (λ (n : ℕ). settled u (with_rows (with_held m (absorbed u m.held rows)) (m.rows + n)) (length rows) x y) (sym all)
      ∙ ap (λ (n : ℕ). settled u (with_rows (with_held m (absorbed u m.held rows)) (m.rows + k)) n x y) (sym all₂)
      ∙ ap (λ (g : Groups S). settled u (with_rows (with_held m g) (m.rows + k)) k₂ x y) (sym is))
      r m' r' a []

  pub bypassed-comes : (out : List (List CellOf)) → out ≡ converted u rows → (r : R)
      → Comes w (λ _ _. bypassed u m rows) r (with_phase (with_rows m (m.rows + k)) (waiting out true)) r accepted []
  bypassed-comes out is r = (
    true,
    true,
    [],
    ap (λ (n : ℕ). outcome (with_phase (with_rows m (m.rows + n)) (waiting (converted u rows) true)) accepted [] []) (sym all)
        ∙ ap (λ (xs : List (List CellOf)). outcome (with_phase (with_rows m (m.rows + k)) (waiting xs true)) accepted [] []) (sym is),
    refl,
  )

-- ---- what the input brings

module _ {S R : Type 0} (u : Setup S) (w : Reservation R) (m : Model S) where
  abbrev handled_in : Phase → InputEvent → Bool → Bool → Outcome S
  handled_in p (Batch b) g h = accepted_in u p m (view_rows b) g h
  handled_in p End g h = outcome (finished_in u p m g).0 accepted [] (finished_in u p m g).1

  same_handled : (e : InputEvent) (g h : Bool) → handled u m e g h ≡ handled_in m.phase e g h
  same_handled (Batch b) g h = refl
  same_handled End g h = refl

  pub handled-comes : (e e₀ : InputEvent) → e ≡ e₀ → (p : Phase) → m.phase ≡ p → (r : R) (m' : Model S) (r' : R) (a : Answer)
      → Comes w (handled_in p e₀) r m' r' a [] → Comes w (handled u m e) r m' r' a []
  handled-comes e e₀ events p phases r m' r' a =
      comes_as u w (handled u m e) (handled_in p e₀)
      (λ g h. same_handled e g h ∙ ap (λ (x : InputEvent). handled_in m.phase x g h) events ∙ ap (λ (x : Phase). handled_in x e₀ g h) phases)
      r m' r' a []

  pub finish-comes : (r : R) (m' : Model S) (r' : R) (a : Answer) → Comes w (handled u (as_closing m) End) r m' r' a [] → Comes w (λ g _. finished u m g) r m' r' closed []
  finish-comes r m' r' a (g, h, qs, is, asked) = (g, h, qs, ap (λ (o : Outcome S). outcome o.model closed [] o.asked) is, asked)
