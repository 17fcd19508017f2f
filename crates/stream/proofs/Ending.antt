-- The end step hands out what is held.
use Rattle.std.proofs.Common.{◌≡◌, ℕ, Bool, false, cond, List, [], ◌∷◌, length, sym, refl, ap, ◌∙◌, subst}
use Rattle.cells.specs.declared.emit_to.EmitTo.TheVariants.{All}
use Rattle.cells.specs.Rows.{CellOf}
use Rattle.model.specs.Setups.{Setup, need}
use Rattle.model.specs.Machine.{Model, count, emits, none, with_phase, stopped}
use Rattle.model.specs.Steps.{ending, ended}
use Rattle.model.specs.Runs.{Reservation, Asked}
use Rattle.stream.specs.Streams.{Ends}

some_held : (keys : List (List CellOf)) → (length keys ≡ 0 → ⊥) → none keys ≡ false
some_held [] some = absurd (some refl)
some_held (k ∷ keys) some = refl

module _ {S R : Type 0} (u : Setup S) (w : Reservation R) (m : Model S) (r : R) where
  abbrev either : Bool → Bool → Model S × List (ℕ × Bool)
  either g b = cond b (with_phase (ending u m) stopped, []) (emits u All (ending u m), (need u 0, g) ∷ [])

  pub ended_emits : (mid m' : Model S) (r' : R) (g : Bool) → mid ≡ ending u m → (count mid ≡ 0 → ⊥) → m' ≡ emits u All mid → w.asks r (need u (count m')) g r'
      → Ends w (ended u m) r m' r'
  ended_emits mid m' r' g is some made asked =
      let held : none (ending u m).held.keys ≡ false = ap (λ (x : Model S). none x.held.keys) (sym is) ∙ some_held mid.held.keys some in
      let nothing_left : count m' ≡ 0 = ap count made in (
        g,
        ap (λ (b : Bool). (either g b).0) held ∙ ap (λ (x : Model S). emits u All x) (sym is) ∙ sym made,
        subst (λ (b : Bool). Asked w r (either g b).1 r') (sym held) (r', subst (λ (k : ℕ). w.asks r (need u k) g r') nothing_left asked, refl),
      )
