-- Runs: any list of calls on a new stream, each on what the one before left. Assumes nothing.
use Rattle.std.specs.Prelude.{◌≡◌, ℕ, Bool, true, false, cond, List, [], ◌∷◌, ◌++◌, ◌==◌}
use Rattle.cells.specs.Rows.{CellOf}
use Rattle.cells.specs.Views.{rows_in}
use Rattle.model.specs.Setups.{Setup}
use Rattle.model.specs.Machine.{Phase, grouping, waiting, bypassing, stopped, Model, start}
use Rattle.model.specs.Steps.{Request, offer, take, finish, Answer, accepted, refused, handed, nothing, closed, outcome, step}

-- what a kind of reservation means: the bytes it holds, its last answer, and what it may answer and become
pub record Reservation (R : Type 0) : Type 1 where
  pub bytes : R → ℕ
  pub granted : R → Bool
  pub asks : R → ℕ → Bool → R → Type 0

-- asked these questions one after the other, it gave these answers
abbrev pub Asked : {R : Type 0} → Reservation R → R → List (ℕ × Bool) → R → Type 0
Asked w r [] t = r ≡ t
Asked {R} w r (q ∷ qs) t = (mid : R) × w.asks r q.0 q.1 mid × Asked w mid qs t

-- a call, its answer, and the rows it handed out
pub record Event : Type 0 where
  pub request : Request
  pub answer : Answer
  pub out : List (List CellOf)

abbrev pub event : Request → Answer → List (List CellOf) → Event
event r a rows = record { request = r; answer = a; out = rows }

-- after finish only take is left
abbrev pub May : {S : Type 0} → Model S → Request → Type 0
May m (offer values flags) = m.closing ≡ false
May m (take v f) = Unit {0}
May m finish = m.closing ≡ false

-- a history is a list of events, the latest first
module _ {S R : Type 0} (u : Setup S) (w : Reservation R) where
  -- the history leads from a new stream and a new reservation to these
  abbrev pub Leads : List Event → Model S → R → Type 0
  Leads [] m r = (m ≡ start u) × (w.bytes r ≡ 0) × (w.granted r ≡ true)
  Leads (e ∷ h) m r =
      (m₀ : Model S) × (r₀ : R) × (g : Bool) × (g' : Bool) × (qs : List (ℕ × Bool))
      × Leads h m₀ r₀ × May m₀ e.request × (step u m₀ e.request g g' ≡ outcome m e.answer e.out qs) × Asked w r₀ qs r

module _ (C : ℕ) where
  -- an offer accepts its rows unless it is refused by a number other than 14
  abbrev pub accepted_by : Answer → List (List CellOf) → List (List CellOf)
  accepted_by accepted rows = rows
  accepted_by (refused e) rows = cond (e.number == 14) rows []
  accepted_by (handed n) rows = []
  accepted_by nothing rows = []
  accepted_by closed rows = []

  abbrev pub accepted_in : Request → Answer → List (List CellOf)
  accepted_in (offer values flags) a = accepted_by a (rows_in C values flags)
  accepted_in (take v f) a = []
  accepted_in finish a = []

  -- the accepted rows, offer by offer
  abbrev pub accepted_rows : List Event → List (List CellOf)
  accepted_rows [] = []
  accepted_rows (e ∷ h) = accepted_rows h ++ accepted_in e.request e.answer

-- the rows that takes handed out, in order
abbrev pub handed_out : List Event → List (List CellOf)
handed_out [] = []
handed_out (e ∷ h) = handed_out h ++ e.out

-- the rows that wait
abbrev pub waiting_in : Phase → List (List CellOf)
waiting_in grouping = []
waiting_in (waiting rows whole) = rows
waiting_in bypassing = []
waiting_in stopped = []

abbrev pub waits : Phase → Bool
waits grouping = false
waits (waiting rows whole) = true
waits bypassing = false
waits stopped = false

-- the end step has run, and nothing waits
abbrev pub Done : {S : Type 0} → Model S → Type 0
Done m = (m.ended ≡ true) × (waits m.phase ≡ false)
