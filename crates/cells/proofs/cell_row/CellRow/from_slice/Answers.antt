use Rattle.std.proofs.Common.{◌∙◌, arith, length-take, replicate, None}
use Rattle.std.proofs.lemmas.List.{length-replicate}
use Rattle.cells.specs.Rows.{CellOf}
use Rattle.cells.proofs.Filled.{filled_front}
use Rattle.cells.proofs.cell_row.CellRow.from_slice.Goals as goal

pub invariant_of-result : goal.invariant_of-result
invariant_of-result g c =
    let len = c.min-len.result in
    let absent = replicate {A = CellOf} g.row.N None in
    let fits = c.min-len.ensures in
    let size = length-replicate {A = CellOf} g.row.N None in
    filled_front g.row.N len c.copy_from_slice.new.self (c.copy_from_slice.ensures.len ∙ length-take len absent ∙ omega (arith, fits, size)) (omega (arith, fits))
