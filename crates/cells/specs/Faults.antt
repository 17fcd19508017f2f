-- When two slices are no batch of C columns. Assumes nothing.
use Rattle.std.specs.Prelude.{ℕ, suc, ◌/◌, ◌%◌, Bool, cond, ◌&&◌, List, [], ◌∷◌, length, ℤ, Some, None, Option, ◌==◌, nat_le, nat_lt}
use Rattle.cells.specs.Refusals.{Refusal, refusal}

-- both slices hold whole rows, as many cells as each other, and at most 512 rows
abbrev pub sized : ℕ → List ℤ → List ℕ → Bool
sized C values flags =
    (nat_lt 0 C && length values % C == 0 && length flags == length values) && nat_le (length values / C) 512

-- the place of the first flag above 1, or how many flags there are
abbrev pub first_bad : List ℕ → ℕ
first_bad [] = 0
first_bad (f ∷ flags) = cond (nat_le f 1) (suc (first_bad flags)) 0

abbrev pub flag_fault : ℕ → List ℕ → Option Refusal
flag_fault C flags =
    cond (nat_lt (first_bad flags) (length flags)) (Some (refusal 10 (first_bad flags / C ∷ first_bad flags % C ∷ []))) None

-- the first of the two questions that is answered no
abbrev pub batch_fault : ℕ → List ℤ → List ℕ → Option Refusal
batch_fault C values flags = cond (sized C values flags) (flag_fault C flags) (Some (refusal 9 []))
