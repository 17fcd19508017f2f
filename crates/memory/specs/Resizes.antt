-- What every reservation keeps when it is asked for bytes. Assumes nothing.
use Rattle.std.specs.Prelude.{◌≡◌, Bool, true, cond, ℕ, ◌≤◌}

-- asked for n bytes in all it answered r, holding so many bytes before and after; its last answer is then `last`
pub record Resized (n : ℕ) (r : Bool) (before after : ℕ) (last : Bool) : Type 0 where
  pub answered : last ≡ r
  pub held : after ≡ cond r n before
  pub within : n ≤ before → r ≡ true
