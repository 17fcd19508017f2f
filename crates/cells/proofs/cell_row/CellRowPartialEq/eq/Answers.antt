use Rattle.cells.specs.Alike.{cells_decide}
use Rattle.cells.proofs.cell_row.CellRowPartialEq.eq.Goals as goal

pub returns-clause-decides : goal.returns-clause-decides
returns-clause-decides g c =
    rw (c.eq.ensures, c.as_slice.ensures.value, c.as_slice-2.ensures.value) (cells_decide c.args.self.now c.args.other.now)
