use Rattle.std.proofs.Common.{◌≡◌, [], get_or, take}
use Rattle.cells.specs.Views.{view_rows}
use Rattle.group_by.specs.Groupings.{masked_cells}
use Rattle.group_by.specs.Keys.{keys_of}
use Rattle.group_by.proofs.keys.GroupByKeys.evaluate_group_by.Given as goal

-- The cells of the columns so far.
abbrev pub invariant-loop-place : goal.invariant-loop-place
invariant-loop-place l =
    l.key
    ≡ take 7 (masked_cells (take l.place l.column-items) (get_or (keys_of l.self).sets l.set []) (get_or (view_rows l.batch) l.row []))
