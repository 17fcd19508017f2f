use Rattle.std.proofs.Common.{sym, ◌∙◌, arith}
use Rattle.output.proofs.Making.{overlaid-long}
use Rattle.output.proofs.rows.put_key.Goals as goal

-- the key's cells come to the front, and the rest of the row stays
pub returns-clause-cells : goal.returns-clause-cells
returns-clause-cells c =
    let long = overlaid-long c.args.key.now c.args.row.now (omega (arith, c.as_slice-cells.ensures.bound)) in
    let same = c.copy_from_slice.ensures.after ∙ c.as_slice-cells.ensures.value in
    rw (same, c.as_slice-cells.ensures.value) (sym long)
