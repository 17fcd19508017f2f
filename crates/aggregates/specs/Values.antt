-- Sum, Min and Earliest: absent until a value comes. Assumes nothing.
use Rattle.std.specs.Prelude.{◌≡◌, [], ◌∷◌, ℤ, Some, None, slice_index_or}
use Rattle.std.specs.Int.{int_min}
use Rattle.cells.specs.Rows.{CellOf}
use Rattle.aggregates.specs.Kinds.{Kind}
use Rattle.aggregates.specs.Wrapping.{Fits, added, FitsCell, cut_cell}

-- what a fold of values promises
pub record LawfulFold (f : ℤ → ℤ → ℤ) : Type 0 where
  pub assoc : (a b c : ℤ) → f (f a b) c ≡ f a (f b c)
  pub keeps : (a b : ℤ) → Fits a → Fits b → Fits (f a b)

-- two values become one by f; beside an absent one the other stays
abbrev pub join_cells : (ℤ → ℤ → ℤ) → CellOf → CellOf → CellOf
join_cells f None b = b
join_cells f (Some u) None = Some u
join_cells f (Some u) (Some v) = Some (f u v)

-- the state is a cell, a row's own state its argument
abbrev pub value_kind : (ℤ → ℤ → ℤ) → Kind CellOf
value_kind f = record {
  neutral = None;
  join = join_cells f;
  own = cut_cell;
  sound = FitsCell;
  shows = λ a. a ∷ [];
  reads = λ cs. cut_cell (slice_index_or cs 0 None);
  result = λ a. a;
  cells = 1;
}

-- the kinds of `Sum`, `Min` and `Earliest`
abbrev pub sum_kind : Kind CellOf
sum_kind = value_kind added

abbrev pub min_kind : Kind CellOf
min_kind = value_kind int_min

abbrev pub earliest_kind : Kind CellOf
earliest_kind = value_kind (λ u v. u)
