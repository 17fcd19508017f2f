-- A reservation with a limit: which growths it grants. Assumes nothing.
use Rattle.std.specs.Prelude.{◌≡◌, Bool, ℕ, nat_le}
use Rattle.memory.specs.declared.bounded.Limit.{Limit}
use Rattle.memory.specs.declared.ruled.RuledReservation.{RuledReservation}
use Rattle.memory.specs.Ruled.{ruled_new}

abbrev pub bounded_new : ℕ → RuledReservation Limit
bounded_new limit = ruled_new (record { limit = limit })

-- a growth up to the limit is granted; what that does to the reservation says `RuledAsks`
abbrev pub bounded_asks : Limit → ℕ → Bool → Limit → Type 0
bounded_asks s n r t = (r ≡ nat_le n s.limit) × (t ≡ s)
