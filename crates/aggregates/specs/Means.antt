-- Mean: a count and a sum. Assumes nothing.
use Rattle.std.specs.Prelude.{cond, [], ◌∷◌, ℤ, pos, Some, None, int_div, int_lt, slice_index_or}
use Rattle.cells.specs.Rows.{CellOf}
use Rattle.aggregates.specs.declared.mean.MeanState.{MeanState}
use Rattle.aggregates.specs.Kinds.{Kind}
use Rattle.aggregates.specs.Wrapping.{Fits, cut, added, number}

abbrev pub counted : ℤ → ℤ → MeanState
counted n s = record { count = n; sum = s }

abbrev pub own_mean : CellOf → MeanState
own_mean None = counted (pos 0) (pos 0)
own_mean (Some v) = counted (pos 1) (cut v)

-- the quotient is cut towards zero, and absent unless the count is positive
abbrev pub mean_of : MeanState → CellOf
mean_of a = cond (int_lt (pos 0) a.count) (Some (int_div a.sum a.count)) None

abbrev pub mean_kind : Kind MeanState
mean_kind = record {
  neutral = counted (pos 0) (pos 0);
  join = λ a b. counted (added a.count b.count) (added a.sum b.sum);
  own = own_mean;
  sound = λ a. Fits a.count × Fits a.sum;
  shows = λ a. Some a.count ∷ Some a.sum ∷ [];
  reads = λ cs. counted (number (slice_index_or cs 0 None)) (number (slice_index_or cs 1 None));
  result = mean_of;
  cells = 2;
}
