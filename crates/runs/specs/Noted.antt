-- Runs of which it is noted what the reservation held after each call. Assumes nothing.
use Rattle.std.specs.Prelude.{◌≡◌, ℕ, Bool, List, [], ◌∷◌}
use Rattle.cells.specs.Rows.{CellOf}
use Rattle.model.specs.Setups.{Setup}
use Rattle.model.specs.Machine.{Model}
use Rattle.model.specs.Steps.{Request, Answer, step}
use Rattle.model.specs.Runs.{Reservation, Event, event, May, Leads}
use Rattle.stream.specs.Streams.{Comes}

-- a call, its answer, the rows it handed out, and the reservation after it: its bytes and its last answer
pub record Noted : Type 0 where
  pub request : Request
  pub answer : Answer
  pub out : List (List CellOf)
  pub bytes : ℕ
  pub granted : Bool

abbrev pub noted : Request → Answer → List (List CellOf) → ℕ → Bool → Noted
noted q a rows b g = record { request = q; answer = a; out = rows; bytes = b; granted = g }

-- the event alone
abbrev pub event_of : Noted → Event
event_of e = event e.request e.answer e.out

module _ {S R : Type 0} (u : Setup S) (w : Reservation R) where
  -- the history leads from a new stream and a new reservation to these, and tells the reservation after each of its calls
  abbrev pub LeadsNoting : List Noted → Model S → R → Type 0
  LeadsNoting [] m r = Leads u w [] m r
  LeadsNoting (e ∷ h) m r =
      (m₀ : Model S) × (r₀ : R) × LeadsNoting h m₀ r₀ × May m₀ e.request × Comes w (step u m₀ e.request) r₀ m r e.answer e.out
      × (e.bytes ≡ w.bytes r) × (e.granted ≡ w.granted r)
