-- In Partial mode nothing is lost or booked under another key.
use Rattle.std.proofs.Common.{◌≡◌, true, false, cond, List, [], ◌∷◌, ◌++◌, length, drop, sym, refl, ap, ◌∙◌, append-nil}
use Rattle.std.specs.List.{AllByRecursion as All}
use Rattle.std.proofs.lemmas.List.{take_at, drop_at}
use Rattle.std.proofs.lemmas.Bool.{cond-true, true≢false}
use Rattle.cells.specs.Rows.{CellOf}
use Rattle.cells.specs.Same.{same_key}
use Rattle.model.specs.Setups.{Setup, key_width, out_row}
use Rattle.model.specs.Machine.{Phase, grouping, waiting, bypassing, stopped, Model, beside, held_pairs, out_rows}
use Rattle.model.specs.Runs.{Reservation, Event, Leads, accepted_rows, handed_out, waiting_in, waits, Done}
use Rattle.model.specs.Sql.{total}
use Rattle.model.specs.Law.{key_part, states_in, states_held, owns, Sensible}
use Rattle.model.proofs.Traced.{Traced}
use Rattle.model.proofs.Tracing.{traced}

no_rows : (p : Phase) → waits p ≡ false → waiting_in p ≡ []
no_rows grouping e = refl
no_rows (waiting rows whole) e = absurd (true≢false e)
no_rows bypassing e = refl
no_rows stopped e = refl

module _ {S : Type 0} (u : Setup S) (fine : Sensible u) (partial : u.settings.partial ≡ true) (k : List CellOf) where
  -- a row handed out in Partial mode is read back as its key and its state
  row-key : (key : List CellOf) (s : S) → length key ≡ key_width u.settings → key_part u (out_row u key s) ≡ key
  row-key key s wide = take_at key _ (key_width u.settings) wide

  row_state : (key : List CellOf) (s : S) → length key ≡ key_width u.settings → u.aggregation.sound s
      → u.aggregation.reads (drop (key_width u.settings) (out_row u key s)) ≡ s
  row_state key s wide so =
      ap u.aggregation.reads (drop_at key _ (key_width u.settings) wide ∙ cond-true u.settings.partial (u.aggregation.shows s) (u.aggregation.results s) partial)
      ∙ fine.lawful.reads_shows s so

  states_read : (ps : List (List CellOf × S)) → All (λ p. u.aggregation.sound p.1) ps → All (λ p. length p.0 ≡ key_width u.settings) ps
      → states_in u k (out_rows u ps) ≡ states_held u k ps
  states_read [] so wide = refl
  states_read (p ∷ ps) so wide =
      let rest : List S = states_in u k (out_rows u ps) in
      ap (λ (x : List CellOf). cond (same_key x k) (u.aggregation.reads (drop (key_width u.settings) (out_row u p.0 p.1)) ∷ rest) rest) (row-key p.0 p.1 wide.0)
      ∙ ap (λ (s : S). cond (same_key p.0 k) (s ∷ rest) rest) (row_state p.0 p.1 wide.0 so.0)
      ∙ ap (λ (ss : List S). cond (same_key p.0 k) (p.1 ∷ ss) ss) (states_read ps so.1 wide.1)

module _ {S R : Type 0} (u : Setup S) (w : Reservation R) (fine : Sensible u) (h : List Event) (m : Model S) (r : R) (l : Leads u w h m r) where
  pub lossless : u.settings.partial ≡ true → (k : List CellOf)
      → total u.aggregation (states_in u k (handed_out h ++ waiting_in m.phase) ++ states_held u k (held_pairs u m.held))
      ≡ total u.aggregation (owns u k (accepted_rows u.settings.columns h))
  lossless partial k =
      let t : Traced u h m = traced u w fine h m r l in
      ap (λ (rows : List (List CellOf)). total u.aggregation (states_in u k rows ++ states_held u k (held_pairs u m.held))) (sym t.rows)
      ∙ ap (λ (ss : List S). total u.aggregation (ss ++ states_held u k (held_pairs u m.held))) (states_read u fine partial k t.trace t.trace_sound t.trace_wide)
      ∙ t.joined k

  pub lossless_done : u.settings.partial ≡ true → Done m → (k : List CellOf)
      → total u.aggregation (states_in u k (handed_out h)) ≡ total u.aggregation (owns u k (accepted_rows u.settings.columns h))
  lossless_done partial d k =
      let t : Traced u h m = traced u w fine h m r l in
      ap (total u.aggregation) (sym (append-nil (states_in u k (handed_out h))))
      ∙ ap (λ (rows : List (List CellOf)). total u.aggregation (states_in u k rows ++ []))
      (sym (ap (λ (rows : List (List CellOf)). handed_out h ++ rows) (no_rows m.phase d.1) ∙ append-nil (handed_out h)))
      ∙ ap (λ (ks : List (List CellOf)). total u.aggregation (states_in u k (handed_out h ++ waiting_in m.phase) ++ states_held u k (beside u ks m.held.states)))
      (sym (t.over d.0))
      ∙ lossless partial k
