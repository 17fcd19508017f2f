-- Count: how many rows have an argument. Assumes nothing.
use Rattle.std.specs.Prelude.{[], ◌∷◌, ℤ, pos, Some, None, slice_index_or}
use Rattle.cells.specs.Rows.{CellOf}
use Rattle.aggregates.specs.Kinds.{Kind}
use Rattle.aggregates.specs.Wrapping.{Fits, added, number}

abbrev pub own_count : CellOf → ℤ
own_count None = pos 0
own_count (Some v) = pos 1

abbrev pub count_kind : Kind ℤ
count_kind = record {
  neutral = pos 0;
  join = added;
  own = own_count;
  sound = Fits;
  shows = λ a. Some a ∷ [];
  reads = λ cs. number (slice_index_or cs 0 None);
  result = λ a. Some a;
  cells = 1;
}
