-- Neither an offer nor a take finishes the input.
use Rattle.std.proofs.Common.{◌≡◌, ℕ, ◌+◌, ◌*◌, Bool, true, false, cond, ◌&&◌, ltb, leb, List, [], ◌∷◌, length, take, drop, ℤ, Some, None, Option, refl}
use Rattle.std.specs.Option.{option_map}
use Rattle.cells.specs.declared.emit_to.EmitTo.{EmitTo}
use Rattle.cells.specs.declared.emit_to.EmitTo.TheVariants.{All}
use Rattle.cells.specs.Refusals.{Refusal, refusal}
use Rattle.cells.specs.Rows.{CellOf}
use Rattle.cells.specs.Views.{rows_in}
use Rattle.order.specs.Orders.{emit_to, oom_emit_to}
use Rattle.order.specs.Skip.{told}
use Rattle.model.specs.Setups.{Setup, need, out_width}
use Rattle.model.specs.Machine.{Model, Phase, grouping, waiting, bypassing, stopped, with_phase, with_probe, with_held, with_rows, count, says, none, absorbed, emits}
use Rattle.model.specs.Steps.{Outcome, outcome, accepted, unaltered, wanted, limited, piece, ending, ended, emits_asking, no_memory, emits_if, reserved, probed, prefixed, settled, accepted_in, offer_fault, offered_if, offered, emptied, passed_on, taken_in, taken}

module _ {S : Type 0} (u : Setup S) where
  -- either of two outcomes, and either of two ends
  either : (c : Bool) (b : Bool) (x y : Outcome S) → x.model.closing ≡ c → y.model.closing ≡ c → (cond b x y).model.closing ≡ c
  either c true x y p q = p
  either c false x y p q = q

  ends : (c : Bool) (b : Bool) (x y : Model S × List (ℕ × Bool)) → x.0.closing ≡ c → y.0.closing ≡ c → (cond b x y).0.closing ≡ c
  ends c true x y p q = p
  ends c false x y p q = q

  ended_keeps : (m : Model S) (g : Bool) → (ended u m g).0.closing ≡ m.closing
  ended_keeps m g = ends m.closing (none (ending u m).held.keys) (with_phase (ending u m) stopped, []) (emits u All (ending u m), (need u 0, g) ∷ []) refl refl

  emits-keeps : (o : Option EmitTo) (m : Model S) (h : Bool) → (emits_if u o m h).model.closing ≡ m.closing
  emits-keeps None m h = refl
  emits-keeps (Some to) m h = refl

  reserved-keeps : (m : Model S) (g h : Bool) → (reserved u m g h).model.closing ≡ m.closing
  reserved-keeps m true h = refl
  reserved-keeps m false h =
      let o = oom_emit_to m.held.order (wanted u.settings.batch_size (count m)) in
      either m.closing (u.settings.partial && ltb 1 (count m)) (emits_if u o m h) (no_memory u m) (emits-keeps o m h) refl

  probed-keeps : (m : Model S) (rows : ℕ) (g h : Bool) → (probed u m rows g h).model.closing ≡ m.closing
  probed-keeps m rows g h =
      let n = with_probe m (option_map (λ p. told p rows (count m)) m.probe) in
      either m.closing (says n.probe && ltb 0 (count n)) (emits_asking u All n [] g) (reserved u n g h) refl (reserved-keeps n g h)

  prefixed-keeps : (o : Option EmitTo) (m : Model S) (rows : ℕ) (g h : Bool) → (prefixed u o m rows g h).model.closing ≡ m.closing
  prefixed-keeps (Some to) m rows g h = refl
  prefixed-keeps None m rows g h = either m.closing u.settings.partial (probed u m rows g h) (reserved u m g h) (probed-keeps m rows g h) (reserved-keeps m g h)

  settled-keeps : (m : Model S) (rows : ℕ) (g h : Bool) → (settled u m rows g h).model.closing ≡ m.closing
  settled-keeps m rows g h =
      either m.closing (limited u.settings.soft_limit (count m)) (outcome (ended u m g).0 accepted [] (ended u m g).1) (prefixed u (emit_to m.held.order) m rows g h)
      (ended_keeps m g) (prefixed-keeps (emit_to m.held.order) m rows g h)

  accepted-keeps : (p : Phase) (m : Model S) (rows : List (List CellOf)) (g h : Bool) → (accepted_in u p m rows g h).model.closing ≡ m.closing
  accepted-keeps grouping m rows g h = settled-keeps (with_rows (with_held m (absorbed u m.held rows)) (m.rows + length rows)) (length rows) g h
  accepted-keeps bypassing m rows g h = refl
  accepted-keeps (waiting ws whole) m rows g h = refl
  accepted-keeps stopped m rows g h = refl

  offered-if_keeps : (o : Option Refusal) (m : Model S) (rows : List (List CellOf)) (g h : Bool) → (offered_if u o m rows g h).model.closing ≡ m.closing
  offered-if_keeps (Some e) m rows g h = refl
  offered-if_keeps None m rows g h = accepted-keeps m.phase m rows g h

  pub offered-keeps : (m : Model S) (values : List ℤ) (flags : List ℕ) (g h : Bool) → (offered u m values flags g h).model.closing ≡ m.closing
  offered-keeps m values flags g h = offered-if_keeps (offer_fault u m values flags) m (rows_in u.settings.columns values flags) g h

  emptied-keeps : (m : Model S) (g : Bool) → (emptied u m g).0.closing ≡ m.closing
  emptied-keeps m g =
      let next : Model S × List (ℕ × Bool) = (with_phase m (cond (says m.probe) bypassing grouping), []) in
      ends m.closing m.ended (with_phase m stopped, []) (cond m.closing (ended u m g) next) refl (ends m.closing m.closing (ended u m g) next (ended_keeps m g) refl)

  passed_keeps : (m : Model S) (out rest : List (List CellOf)) (g : Bool) → (passed_on u m out rest g).model.closing ≡ m.closing
  passed_keeps m out [] g = emptied-keeps m g
  passed_keeps m out (row ∷ rest) g = refl

  taken_in_keeps : (p : Phase) (m : Model S) (v f : ℕ) (g : Bool) → (taken_in u p m v f g).model.closing ≡ m.closing
  taken_in_keeps grouping m v f g = refl
  taken_in_keeps bypassing m v f g = refl
  taken_in_keeps stopped m v f g = refl
  taken_in_keeps (waiting ws whole) m v f g =
      let n = piece u.settings.batch_size whole (length ws) in
      either m.closing (leb (n * out_width u) v && leb (n * out_width u) f) (passed_on u m (take n ws) (drop n ws) g) (unaltered m (refusal 15 [])) (passed_keeps m (take n ws) (drop n ws) g) refl

  pub taken_keeps : (m : Model S) (v f : ℕ) (g : Bool) → (taken u m v f g).model.closing ≡ m.closing
  taken_keeps m v f g = taken_in_keeps m.phase m v f g
