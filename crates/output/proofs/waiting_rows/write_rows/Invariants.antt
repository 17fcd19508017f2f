use Rattle.std.proofs.Common.{◌≡◌, map, take}
use Rattle.cells.specs.Rows.{overlaid}
use Rattle.output.specs.Slices.{value_of, flag_of, flat}
use Rattle.output.proofs.waiting_rows.write_rows.Given as goal

-- The rows before this one are written.
abbrev pub invariant-loop-number : goal.invariant-loop-number
invariant-loop-number l =
    (l.values ≡ overlaid (map value_of (flat l.width (take l.number l.rows))) l.initial.values)
    × (l.flags ≡ overlaid (map flag_of (flat l.width (take l.number l.rows))) l.initial.flags)
