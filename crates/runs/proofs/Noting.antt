-- What is noted beside a run is no part of what it leads to.
use Rattle.std.proofs.Common.{List, [], ◌∷◌, map}
use Rattle.model.specs.Setups.{Setup}
use Rattle.model.specs.Machine.{Model}
use Rattle.model.specs.Runs.{Reservation, Leads}
use Rattle.runs.specs.Noted.{Noted, event_of, LeadsNoting}

pub leads_noting : {S R : Type 0} (u : Setup S) (w : Reservation R) (h : List Noted) (m : Model S) (r : R) → LeadsNoting u w h m r → Leads u w (map event_of h) m r
leads_noting u w [] m r led = led
leads_noting u w (e ∷ h) m r (m₀, r₀, led, may, (g, g', qs, is, asked), bytes, granted) = (m₀, r₀, g, g', qs, leads_noting u w h m₀ r₀ led, may, is, asked)
