-- A reservation that grows by a rule. Assumes nothing.
use Rattle.std.specs.Prelude.{◌≡◌, Bool, true, cond, ℕ, ◌<◌, ◌≤◌}
use Rattle.memory.specs.declared.ruled.RuledReservation.{RuledReservation}

abbrev pub ruled_new : {G : Type 0} → G → RuledReservation G
ruled_new rule = record { rule = rule; size = 0; last_answer = true }

-- asked for n bytes in all, s answered r and became t, where `asks` says the same of its rule and a growth
pub record RuledAsks {G : Type 0} (asks : G → ℕ → Bool → G → Type 0) (s : RuledReservation G) (n : ℕ) (r : Bool) (t : RuledReservation G) : Type 0 where
  -- what is no growth is granted, and the rule is not asked
  pub within : n ≤ s.size → (r ≡ true) × (t.rule ≡ s.rule)
  pub growth : s.size < n → asks s.rule n r t.rule
  pub held : t.size ≡ cond r n s.size
  pub answered : t.last_answer ≡ r
