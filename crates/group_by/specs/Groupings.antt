-- The key columns and the grouping sets, and the key of a row. Assumes nothing.
use Rattle.std.specs.Prelude.{ℕ, Bool, cond, List, [], ◌∷◌, ◌++◌, length, replicate, pos, Some, None, vec_items, Option, slice_index_or}
use Rattle.cells.specs.Refusals.{Refusal}
use Rattle.cells.specs.Rows.{CellOf}
use Rattle.group_by.specs.declared.physical.PhysicalGroupBy.{PhysicalGroupBy}
use Rattle.group_by.specs.Sets.{sets_of, sets_fault, ids}

pub record GroupBy : Type 0 where
  pub columns : List ℕ
  pub sets : List (List Bool)
  pub grouped : Bool

abbrev pub group_by : PhysicalGroupBy → GroupBy
group_by g =
    record { columns = vec_items g.columns; sets = sets_of (vec_items g.groups); grouped = g.has_grouping_set }

-- only grouping sets have ids
abbrev pub group_by_fault : GroupBy → Option Refusal
group_by_fault gb = cond gb.grouped (sets_fault gb.sets) None

-- the row's cells at the columns, absent where masked; a column without a mark is not masked
abbrev pub masked_cells : List ℕ → List Bool → List CellOf → List CellOf
masked_cells [] marks row = []
masked_cells (c ∷ columns) [] row = slice_index_or row c None ∷ masked_cells columns [] row
masked_cells (c ∷ columns) (m ∷ marks) row = cond m None (slice_index_or row c None) ∷ masked_cells columns marks row

-- the id of a set, 0 past the last
abbrev pub id_cells : GroupBy → ℕ → List CellOf
id_cells gb s = cond gb.grouped (Some (slice_index_or (ids gb.sets) s (pos 0)) ∷ []) []

abbrev pub key_of : GroupBy → ℕ → List CellOf → List CellOf
key_of gb s row = masked_cells gb.columns (slice_index_or gb.sets s []) row ++ id_cells gb s

-- the key of a row of which no column is kept
abbrev pub masked_key : GroupBy → ℕ → List CellOf
masked_key gb s = replicate (length gb.columns) None ++ id_cells gb s
