-- A reservation that remembers the greatest grant. Assumes nothing.
use Rattle.std.specs.Prelude.{◌≡◌, Bool, cond, ℕ, max}
use Rattle.memory.specs.declared.peak.PeakReservation.{PeakReservation}

-- it answers as the one within does
abbrev pub peak_asks : {R : Type 0} → (R → ℕ → Bool → R → Type 0) → PeakReservation R → ℕ → Bool → PeakReservation R → Type 0
peak_asks asks s n r t = asks s.inner n r t.inner × (t.peak ≡ cond r (max s.peak n) s.peak)
