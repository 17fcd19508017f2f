use Rattle.std.proofs.Common.{◌≡◌, map}
use Rattle.output.specs.Slices.{value_of, flag_of, padded, put_at}
use Rattle.output.proofs.waiting_rows.write_row.Given as goal

-- The cells of the columns before this one are written.
abbrev pub invariant-loop-column : goal.invariant-loop-column
invariant-loop-column l =
    (l.values ≡ put_at l.start (map value_of (padded l.column l.row)) l.initial.values)
    × (l.flags ≡ put_at l.start (map flag_of (padded l.column l.row)) l.initial.flags)
