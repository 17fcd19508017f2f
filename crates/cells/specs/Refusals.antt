-- What a refusal tells: its number, and the values that go with it. Assumes nothing.
use Rattle.std.specs.Prelude.{ℕ, List, [], ◌∷◌}
use Rattle.cells.specs.declared.batch.BatchFault.{BatchFault}
use Rattle.cells.specs.declared.batch.BatchFault.TheVariants.{Size, Flag}

pub record Refusal : Type 0 where
  pub number : ℕ
  pub values : List ℕ

abbrev pub refusal : ℕ → List ℕ → Refusal
refusal n vs = record { number = n; values = vs }

-- 9 is a wrong size, and 10 the row and the column of a flag
abbrev pub batch_refusal : BatchFault → Refusal
batch_refusal Size = refusal 9 []
batch_refusal (Flag row column) = refusal 10 (row ∷ column ∷ [])
