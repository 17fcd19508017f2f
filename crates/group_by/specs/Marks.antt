-- The marks of a grouping set as a number, and the bits of a number. Assumes nothing.
use Rattle.std.specs.Prelude.{ℕ, ◌+◌, ◌-◌, ◌*◌, ◌^◌, ◌<◌, ◌≤◌, Bool, cond, List, fold, nat_le}
use Rattle.std.specs.Int.Count.{count_leading_zeros}

-- one more binary digit, 1 where masked
abbrev pub with_mark : ℕ → Bool → ℕ
with_mark n masked = n * 2 + cond masked 1 0

-- the first mark is the highest digit
abbrev pub mark_value : List Bool → ℕ
mark_value marks = fold with_mark 0 marks

-- how many binary digits a number below 2 ^ 64 has: none for 0
abbrev pub digits : ℕ → ℕ
digits n = 64 - count_leading_zeros 64 n

-- d digits hold n, and one fewer would not
pub record Digits (n d : ℕ) : Type 0 where
  pub hold : n < 2 ^ d
  pub needed : 0 < n → 2 ^ (d - 1) ≤ n

-- the least of 8, 16, 32 and 64 that holds so many bits, at most 64
abbrev pub width_of : ℕ → ℕ
width_of bits = cond (nat_le bits 8) 8 (cond (nat_le bits 16) 16 (cond (nat_le bits 32) 32 64))
