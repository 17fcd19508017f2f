-- What each call answers and leaves: the questions in their order, and the steps. Assumes nothing.
use Rattle.std.specs.Prelude.{ℕ, zero, suc, ◌+◌, ◌*◌, ◌/◌, ◌^◌, min, Bool, true, false, cond, ◌&&◌, List, [], ◌∷◌, ◌++◌, length, drop, ℤ, Some, None, Option, nat_le, nat_lt}
use Rattle.std.specs.Option.{option_map}
use Rattle.cells.specs.declared.emit_to.EmitTo.{EmitTo}
use Rattle.cells.specs.declared.emit_to.EmitTo.TheVariants.{All}
use Rattle.cells.specs.Rows.{CellOf}
use Rattle.cells.specs.Refusals.{Refusal, refusal}
use Rattle.cells.specs.Faults.{batch_fault}
use Rattle.cells.specs.Views.{rows_in}
use Rattle.order.specs.Orders.{emit_to, oom_emit_to, done}
use Rattle.order.specs.Skip.{told}
use Rattle.model.specs.Setups.{Setup, num_sets, row_key, need, out_width}
use Rattle.model.specs.Machine.{Phase, grouping, waiting, bypassing, stopped, Model, with_phase, with_held, with_probe, with_rows, as_ended, as_closing, count, says, absorbed, emits, totalled, none, converted, groups}

-- a call, with the caller's slices: an offer's contents, and how long a take's are
pub data Request : Type 0 where
  offer : List ℤ → List ℕ → Request
  take : ℕ → ℕ → Request
  finish : Request

pub data Answer : Type 0 where
  -- an offer was accepted
  accepted : Answer
  refused : Refusal → Answer
  -- a take handed out so many rows, or nothing waited
  handed : ℕ → Answer
  nothing : Answer
  -- the stream only takes from now on
  closed : Answer

-- what a call comes to: the stream after it, the answer, the rows handed out, and what the reservation was asked for, in
-- order, with its answers
pub record Outcome (S : Type 0) : Type 0 where
  pub model : Model S
  pub answer : Answer
  pub out : List (List CellOf)
  pub asked : List (ℕ × Bool)

module _ {S : Type 0} where
  abbrev pub outcome : Model S → Answer → List (List CellOf) → List (ℕ × Bool) → Outcome S
  outcome m a rows qs = record { model = m; answer = a; out = rows; asked = qs }

  -- a refusal leaves everything as it was
  abbrev pub unaltered : Model S → Refusal → Outcome S
  unaltered m e = outcome m (refused e) [] []

-- of n held groups, those wanted where memory is refused: whole batches, or all if there is less than one
abbrev pub wanted : ℕ → ℕ → ℕ
wanted batch_size n = cond (nat_le batch_size n) (n / batch_size * batch_size) n

-- whether so many held groups end the reading
abbrev pub limited : Option ℕ → ℕ → Bool
limited None n = false
limited (Some limit) n = nat_le limit n

-- how many of n rows that wait one take hands out
abbrev pub piece : ℕ → Bool → ℕ → ℕ
piece batch_size whole n = cond whole n (min batch_size n)

abbrev pub or_else : {X : Type 0} → Option X → Option X → Option X
or_else None p = p
or_else (Some x) p = Some x

module _ {S : Type 0} (u : Setup S) where
  -- ---- the questions before an offer

  -- the first of n sets, from the s-th on, for which the row's key is not admitted
  abbrev pub set_out : List CellOf → ℕ → ℕ → Option ℕ
  set_out row s zero = None
  set_out row s (suc n) = cond (u.admitted (row_key u.settings s row)) (set_out row (s + 1) n) (Some s)

  -- the first row, and its first set, whose key is not admitted
  abbrev pub key_out : ℕ → List (List CellOf) → Option (ℕ × ℕ)
  key_out i [] = None
  key_out i (row ∷ rows) = or_else (option_map (λ s. (i, s)) (set_out row 0 (num_sets u.settings))) (key_out (i + 1) rows)

  abbrev pub key_fault : List (List CellOf) → Option Refusal
  key_fault rows = option_map (λ p. refusal 12 (p.0 ∷ p.1 ∷ [])) (key_out 0 rows)

  abbrev pub room_fault : Model S → List (List CellOf) → Option Refusal
  room_fault m rows = cond (nat_le (count m + length rows * num_sets u.settings) 512) None (Some (refusal 13 []))

  -- only while grouping: is every key admitted, and is there room for as many groups as the batch may open
  abbrev pub grouping_fault : Phase → Model S → List (List CellOf) → Option Refusal
  grouping_fault grouping m rows = or_else (key_fault rows) (room_fault m rows)
  grouping_fault (waiting ws whole) m rows = None
  grouping_fault bypassing m rows = None
  grouping_fault stopped m rows = None

  abbrev pub total_fault : Model S → List (List CellOf) → Option Refusal
  total_fault m rows = cond (nat_le (m.rows + length rows) (2 ^ 40)) None (Some (refusal 11 []))

  -- is it still reading
  abbrev pub reading_fault : Phase → Bool → Option Refusal
  reading_fault grouping over = cond over (Some (refusal 7 [])) None
  reading_fault (waiting ws whole) over = cond over (Some (refusal 7 [])) (Some (refusal 8 []))
  reading_fault bypassing over = cond over (Some (refusal 7 [])) None
  reading_fault stopped over = Some (refusal 7 [])

  abbrev pub offer_fault : Model S → List ℤ → List ℕ → Option Refusal
  offer_fault m values flags =
      let rows = rows_in u.settings.columns values flags in
      or_else (reading_fault m.phase m.ended)
      (or_else (batch_fault u.settings.columns values flags) (or_else (total_fault m rows) (grouping_fault m.phase m rows)))

  -- ---- the steps; g and h are the reservation's answers, in order

  -- the end: all groups are finished, and go out
  abbrev pub ending : Model S → Model S
  ending m = as_ended (with_held m (totalled u (groups m.held.keys m.held.states (done m.held.order))))

  abbrev pub ended : Model S → Bool → Model S × List (ℕ × Bool)
  ended m g =
      let n = ending m in
      cond (none n.held.keys) (with_phase n stopped, []) (emits u All n, (need u 0, g) ∷ [])

  abbrev pub emits_asking : EmitTo → Model S → List (ℕ × Bool) → Bool → Outcome S
  emits_asking to m before g = outcome (emits u to m) accepted [] (before ++ (need u (count (emits u to m)), g) ∷ [])

  abbrev pub no_memory : Model S → Outcome S
  no_memory m = outcome m (refused (refusal 14 [])) [] ((need u (count m), false) ∷ [])

  abbrev pub emits_if : Option EmitTo → Model S → Bool → Outcome S
  emits_if None m h = no_memory m
  emits_if (Some to) m h = emits_asking to m ((need u (count m), false) ∷ []) h

  -- memory is asked for; where it is refused, Partial mode with more than one group emits early
  abbrev pub reserved : Model S → Bool → Bool → Outcome S
  reserved m true h = outcome m accepted [] ((need u (count m), true) ∷ [])
  reserved m false h =
      cond (u.settings.partial && nat_lt 1 (count m)) (emits_if (oom_emit_to m.held.order (wanted u.settings.batch_size (count m))) m h) (no_memory m)

  -- the probe is told; where it says skip, all groups go out
  abbrev pub probed : Model S → ℕ → Bool → Bool → Outcome S
  probed m rows g h =
      let n = with_probe m (option_map (λ p. told p rows (count m)) m.probe) in
      cond (says n.probe && nat_lt 0 (count n)) (emits_asking All n [] g) (reserved n g h)

  -- the prefix of a declared order goes out
  abbrev pub prefixed : Option EmitTo → Model S → ℕ → Bool → Bool → Outcome S
  prefixed (Some to) m rows g h = emits_asking to m [] g
  prefixed None m rows g h = cond u.settings.partial (probed m rows g h) (reserved m g h)

  abbrev pub settled : Model S → ℕ → Bool → Bool → Outcome S
  settled m rows g h =
      cond (limited u.settings.soft_limit (count m))
      (outcome (ended m g).0 accepted [] (ended m g).1)
      (prefixed (emit_to m.held.order) m rows g h)

  abbrev pub grouped : Model S → List (List CellOf) → Bool → Bool → Outcome S
  grouped m rows g h = settled (with_rows (with_held m (absorbed u m.held rows)) (m.rows + length rows)) (length rows) g h

  -- every row is turned into a key and a state, and the batch waits in one piece
  abbrev pub bypassed : Model S → List (List CellOf) → Outcome S
  bypassed m rows = outcome (with_phase (with_rows m (m.rows + length rows)) (waiting (converted u rows) true)) accepted [] []

  abbrev pub accepted_in : Phase → Model S → List (List CellOf) → Bool → Bool → Outcome S
  accepted_in grouping m rows g h = grouped m rows g h
  accepted_in bypassing m rows g h = bypassed m rows
  accepted_in (waiting ws whole) m rows g h = unaltered m (refusal 8 [])
  accepted_in stopped m rows g h = unaltered m (refusal 7 [])

  abbrev pub offered_if : Option Refusal → Model S → List (List CellOf) → Bool → Bool → Outcome S
  offered_if (Some e) m rows g h = unaltered m e
  offered_if None m rows g h = accepted_in m.phase m rows g h

  abbrev pub offered : Model S → List ℤ → List ℕ → Bool → Bool → Outcome S
  offered m values flags g h = offered_if (offer_fault m values flags) m (rows_in u.settings.columns values flags) g h

  -- ---- take

  -- nothing waits any more: the end step of a closing stream that has not had it, or what comes next
  abbrev pub emptied : Model S → Bool → Model S × List (ℕ × Bool)
  emptied m g =
      cond m.ended (with_phase m stopped, [])
      (cond m.closing (ended m g) (with_phase m (cond (says m.probe) bypassing grouping), []))

  abbrev pub passed_on : Model S → List (List CellOf) → List (List CellOf) → Bool → Outcome S
  passed_on m out [] g = outcome (emptied m g).0 (handed (length out)) out (emptied m g).1
  passed_on m out (row ∷ rows) g = outcome (with_phase m (waiting (row ∷ rows) false)) (handed (length out)) out []

  abbrev pub taken_in : Phase → Model S → ℕ → ℕ → Bool → Outcome S
  taken_in grouping m v f g = outcome m nothing [] []
  taken_in bypassing m v f g = outcome m nothing [] []
  taken_in stopped m v f g = outcome m nothing [] []
  taken_in (waiting ws whole) m v f g =
      let n = piece u.settings.batch_size whole (length ws) in
      cond (nat_le (n * out_width u) v && nat_le (n * out_width u) f)
      (passed_on m (lib.ListN.take n ws) (drop n ws) g)
      (unaltered m (refusal 15 []))

  abbrev pub taken : Model S → ℕ → ℕ → Bool → Outcome S
  taken m v f g = taken_in m.phase m v f g

  -- ---- finish

  abbrev pub finished_in : Phase → Model S → Bool → Model S × List (ℕ × Bool)
  finished_in grouping m g = ended m g
  finished_in bypassing m g = ended m g
  finished_in stopped m g = (m, [])
  finished_in (waiting ws whole) m g = (m, [])

  abbrev pub finished : Model S → Bool → Outcome S
  finished m g =
      let n = as_closing m in
      outcome (finished_in n.phase n g).0 closed [] (finished_in n.phase n g).1

  -- ---- any call

  abbrev pub step : Model S → Request → Bool → Bool → Outcome S
  step m (offer values flags) g h = offered m values flags g h
  step m (take v f) g h = taken m v f g
  step m finish g h = finished m g
