-- What a stream stands for. Assumes nothing.
use Rattle.std.specs.Prelude.{◌≡◌, ℕ, ◌+◌, ◌^◌, ◌≤◌, Bool, List, [], length}
use Rattle.std.specs.Option.{option_map}
use Rattle.cells.specs.declared.batch.Batch as view
use Rattle.cells.specs.Rows.{CellOf}
use Rattle.cells.specs.Views.{view_rows}
use Rattle.accumulators.specs.declared.groups_accumulator.GroupsAccumulator as GroupsAccumulator
use Rattle.group_values.specs.declared.group_values.GroupValues as GroupValues
use Rattle.memory.specs.declared.reservation.MemoryReservation as MemoryReservation
use Rattle.order.specs.Skip.{probe}
use Rattle.output.specs.Waits.{waiting_rows}
use Rattle.groups.specs.Plans.{setup_of}
use Rattle.groups.specs.Held.{held_of}
use Rattle.model.specs.Setups.{Setup}
use Rattle.model.specs.Machine.{Phase, grouping, waiting, bypassing, stopped, Model}
use Rattle.model.specs.Steps.{Answer, accepted, Outcome, outcome, accepted_in, finished_in}
use Rattle.model.specs.Runs.{Reservation, Asked}
use Rattle.stream.specs.declared.state.ExecutionState.{ExecutionState}
use Rattle.stream.specs.declared.state.ExecutionState.TheVariants.{ReadingInput, ProducingOutput, SkippingAggregation, Done}
use Rattle.stream.specs.declared.state.InputEvent.{InputEvent}
use Rattle.stream.specs.declared.state.InputEvent.TheVariants.{Batch, End}
use Rattle.stream.specs.declared.state.GroupedHashAggregateStream.{GroupedHashAggregateStream}

abbrev pub phase_of : ExecutionState → List (List CellOf) → Phase
phase_of ReadingInput rows = grouping
phase_of (ProducingOutput whole) rows = waiting rows whole
phase_of SkippingAggregation rows = bypassing
phase_of Done rows = stopped

abbrev pub meaning : {R : Type 0} → (R → ℕ) → (R → Bool) → (R → ℕ → Bool → R → Type 0) → Reservation R
meaning bytes granted asks = record { bytes = bytes; granted = granted; asks = asks }

-- a stream, by what its table, its accumulator and its reservation mean
abbrev pub StreamOf : {G A S R : Type 0} → GroupValues.Ghosts G → GroupsAccumulator.Ghosts A S → MemoryReservation.Ghosts R → Type 0
StreamOf {G} {A} {S} {R} table accumulator memory = GroupedHashAggregateStream G A R S table accumulator memory

module _ {G A S R : Type 0} {table : GroupValues.Ghosts G} {accumulator : GroupsAccumulator.Ghosts A S} {memory : MemoryReservation.Ghosts R} where
  abbrev pub model_of : StreamOf table accumulator memory → Model S
  model_of s = record {
    held = held_of s.held;
    probe = option_map probe s.skip_aggregation_probe;
    phase = phase_of s.exec_state (waiting_rows s.waiting);
    ended = s.input_done;
    closing = s.closing;
    rows = s.rows;
  }

  abbrev pub setup_in : StreamOf table accumulator memory → Setup S
  setup_in s = setup_of accumulator.aggregation table.admitted s.plan

  abbrev pub memory_of : StreamOf table accumulator memory → Reservation R
  memory_of s = meaning memory.bytes memory.granted memory.asks

-- few enough rows to be counted
abbrev pub Countable : ℕ → view.Batch → Type 0
Countable rows b = rows + length (view_rows b) ≤ 2 ^ 40

abbrev pub CountableIn : ℕ → InputEvent → Type 0
CountableIn rows (Batch b) = Countable rows b
CountableIn rows End = Unit {0}

-- what comes of a batch, or of the input's end
abbrev pub handled : {S : Type 0} → Setup S → Model S → InputEvent → Bool → Bool → Outcome S
handled u m (Batch b) g h = accepted_in u m.phase m (view_rows b) g h
handled u m End g h = outcome (finished_in u m.phase m g).0 accepted [] (finished_in u m.phase m g).1

-- with some answers of the reservation, f comes to this: the stream after it, the answer and the rows handed out, the
-- reservation having been asked exactly what f asks
abbrev pub Comes : {S R : Type 0} → Reservation R → (Bool → Bool → Outcome S) → R → Model S → R → Answer → List (List CellOf) → Type 0
Comes w f r m r' a out = (g : Bool) × (h : Bool) × (qs : List (ℕ × Bool)) × (f g h ≡ outcome m a out qs) × Asked w r qs r'

-- the same of a step that answers nothing
abbrev pub Ends : {S R : Type 0} → Reservation R → (Bool → Model S × List (ℕ × Bool)) → R → Model S → R → Type 0
Ends w f r m r' = (g : Bool) × ((f g).0 ≡ m) × Asked w r (f g).1 r'

module _ {G A S R : Type 0} {table : GroupValues.Ghosts G} {accumulator : GroupsAccumulator.Ghosts A S} {memory : MemoryReservation.Ghosts R} where
  -- the step f leads from one stream to another, with this answer, no rows handed out, and the plan as it was
  pub record Does (f : Setup S → Model S → Bool → Bool → Outcome S) (old new : StreamOf table accumulator memory) (a : Answer) : Type 0 where
    pub comes : Comes (memory_of old) (f (setup_in old) (model_of old)) old.reservation (model_of new) new.reservation a []
    pub plan : new.plan ≡ old.plan

  -- the same of a step that answers nothing
  pub record Goes (f : Setup S → Model S → Bool → Model S × List (ℕ × Bool)) (old new : StreamOf table accumulator memory) : Type 0 where
    pub ends : Ends (memory_of old) (f (setup_in old) (model_of old)) old.reservation (model_of new) new.reservation
    pub plan : new.plan ≡ old.plan
