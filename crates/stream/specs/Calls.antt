-- What the calls of a stream promise: the answer, the stream and the slices after it, and that the law goes on to hold.
-- Assumes nothing.
use Rattle.std.specs.Prelude.{◌≡◌, ℕ, true, List, [], ◌∷◌, map, length, ℤ, Option, Result}
use Rattle.cells.specs.Rows.{CellOf, overlaid}
use Rattle.output.specs.Slices.{value_of, flag_of, flat}
use Rattle.model.specs.Setups.{Setup, out_width}
use Rattle.model.specs.Machine.{Model}
use Rattle.model.specs.Steps.{Request, offer, take, finish, Answer, closed, step}
use Rattle.model.specs.Runs.{Reservation, Event, event, May, Leads}
use Rattle.model.specs.Law.{Sensible, Law}
use Rattle.stream.specs.declared.faults.OfferFault.{OfferFault}
use Rattle.stream.specs.declared.faults.TakeFault.{TakeFault}
use Rattle.stream.specs.Refusals.{offer_answer, take_answer}
use Rattle.accumulators.specs.declared.groups_accumulator.GroupsAccumulator as GroupsAccumulator
use Rattle.group_values.specs.declared.group_values.GroupValues as GroupValues
use Rattle.memory.specs.declared.reservation.MemoryReservation as MemoryReservation
use Rattle.stream.specs.Streams.{StreamOf, model_of, setup_in, memory_of, Comes}

module _ {S R : Type 0} (u : Setup S) (w : Reservation R) (m : Model S) (r : R) where
  -- whatever run led here, with settings that passed their questions, the call goes on with it, and the law holds of the whole
  abbrev pub Extends : Request → Answer → List (List CellOf) → Model S → R → Type 0
  Extends q a out m' r' =
      let e = event q a out in Sensible u → (h : List Event) → Leads u w h m r → May m q → Leads u w (e ∷ h) m' r' × Law u w (e ∷ h) m' r'

  -- a call is the defined step, with the reservation's own answers, and goes on with every run
  pub record Makes (q : Request) (a : Answer) (out : List (List CellOf)) (m' : Model S) (r' : R) : Type 0 where
    pub comes : Comes w (step u m q) r m' r' a out
    pub law : Extends q a out m' r'

  -- the rows that a take hands out, whatever the reservation answers
  abbrev pub out_of : ℕ → ℕ → List (List CellOf)
  out_of v f = (step u m (take v f) true true).out

-- a call on a stream leads to another stream
module _ {G A S R : Type 0} {table : GroupValues.Ghosts G} {accumulator : GroupsAccumulator.Ghosts A S} {memory : MemoryReservation.Ghosts R}
    (old : StreamOf table accumulator memory) where
  abbrev pub Calls : Request → Answer → List (List CellOf) → StreamOf table accumulator memory → Type 0
  Calls q a out new = Makes (setup_in old) (memory_of old) (model_of old) old.reservation q a out (model_of new) new.reservation

  abbrev pub Offers : List ℤ → List ℕ → Result (Unit {0}) OfferFault → StreamOf table accumulator memory → Type 0
  Offers values flags res new = Calls (offer values flags) (offer_answer res) [] new

  abbrev pub Finishes : StreamOf table accumulator memory → Type 0
  Finishes new = Calls finish closed [] new

  abbrev pub out_rows : List ℤ → List ℕ → List (List CellOf)
  out_rows values flags = out_of (setup_in old) (memory_of old) (model_of old) old.reservation (length values) (length flags)

  -- a take writes the cells of the rows it hands out to the front of the slices, and leaves what lies behind
  pub record Takes (values : List ℤ) (flags : List ℕ) (res : Result (Option ℕ) TakeFault) (new : StreamOf table accumulator memory)
      (values' : List ℤ) (flags' : List ℕ) : Type 0 where
    pub makes : Calls (take (length values) (length flags)) (take_answer res) (out_rows values flags) new
    pub values_are : values' ≡ overlaid (map value_of (flat (out_width (setup_in old)) (out_rows values flags))) values
    pub flags_are : flags' ≡ overlaid (map flag_of (flat (out_width (setup_in old)) (out_rows values flags))) flags
