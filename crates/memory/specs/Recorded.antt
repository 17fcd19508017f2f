-- A reservation whose answers stand in a word. Assumes nothing.
use Rattle.std.specs.Prelude.{◌≡◌, Bool, cond, ◌||◌, ℕ, ◌+◌, ◌/◌, ◌%◌, ◌^◌, nat_le, ◌==◌}
use Rattle.memory.specs.declared.recorded.Recording.{Recording}
use Rattle.memory.specs.declared.ruled.RuledReservation.{RuledReservation}
use Rattle.memory.specs.Ruled.{ruled_new}

abbrev pub recorded_new : ℕ → RuledReservation Recording
recorded_new word = ruled_new (record { word = word; growths = 0 })

-- growth i is granted where bit i of the word is 1, or past the word
abbrev pub grants : ℕ → ℕ → Bool
grants word i = nat_le 64 i || word / 2 ^ i % 2 == 1

-- one growth more; those past the word are not counted
abbrev pub counted : ℕ → ℕ
counted i = cond (nat_le 64 i) i (i + 1)

-- a growth was asked for
abbrev pub asked : Recording → Recording
asked s = record { word = s.word; growths = counted s.growths }

-- a growth is answered by the word, and counted; what that does to the reservation says `RuledAsks`
abbrev pub recorded_asks : Recording → ℕ → Bool → Recording → Type 0
recorded_asks s n r t = (r ≡ grants s.word s.growths) × (t ≡ asked s)
