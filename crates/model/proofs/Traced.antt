-- What the proof of the law keeps of every run: the groups emitted so far, in order, beside those that are held.
use Rattle.std.proofs.Common.{◌≡◌, ◌≤◌, true, false, List, [], ◌++◌, length, None}
use Rattle.std.specs.List.{AllByRecursion as All}
use Rattle.cells.specs.Rows.{CellOf}
use Rattle.group_values.specs.Tables.{Distinct}
use Rattle.model.specs.Setups.{Setup, key_width, probes}
use Rattle.model.specs.Machine.{bypassing, stopped, Model, says, held_pairs, out_rows}
use Rattle.model.specs.Runs.{Event, accepted_rows, handed_out, waiting_in}
use Rattle.model.specs.Sql.{total}
use Rattle.model.specs.Law.{states_held, owns}

pub record Traced {S : Type 0} (u : Setup S) (h : List Event) (m : Model S) : Type 0 where
  -- the groups emitted, and the rows passed on, oldest first
  pub trace : List (List CellOf × S)
  pub rows : out_rows u trace ≡ handed_out h ++ waiting_in m.phase
  pub joined : (k : List CellOf)
      → total u.aggregation (states_held u k trace ++ states_held u k (held_pairs u m.held))
      ≡ total u.aggregation (owns u k (accepted_rows u.settings.columns h))
  pub trace_sound : All (λ p. u.aggregation.sound p.1) trace
  pub held_sound : All u.aggregation.sound m.held.states
  pub trace_wide : All (λ p. length p.0 ≡ key_width u.settings) trace
  pub held_wide : All (λ k. length k ≡ key_width u.settings) m.held.keys
  pub aligned : length m.held.states ≡ length m.held.keys
  pub apart : Distinct m.held.keys
  pub bounded : length m.held.keys ≤ 512
  -- nothing is held once the end step has run, or the probe has said skip
  pub over : m.ended ≡ true → m.held.keys ≡ []
  pub skipped : says m.probe ≡ true → m.held.keys ≡ []
  pub passing : m.phase ≡ bypassing → says m.probe ≡ true
  pub at_end : m.phase ≡ stopped → m.ended ≡ true
  -- only Partial mode has a probe
  pub probing : says m.probe ≡ true → u.settings.partial ≡ true
  -- and there is none where rows may not be passed on
  pub unprobed : probes u.settings ≡ false → m.probe ≡ None
  pub mode : m.held.order.mode ≡ u.settings.order
