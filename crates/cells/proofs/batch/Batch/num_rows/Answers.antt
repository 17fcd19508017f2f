use Rattle.std.proofs.Common.{sym}
use Rattle.cells.specs.Rows.{cells_of}
use Rattle.cells.proofs.Rows.{length-rows}
use Rattle.cells.proofs.batch.Batch.num_rows.Goals as goal

pub returns-clause-value : goal.returns-clause-value
returns-clause-value c =
    let b = c.args.self.now in
    sym (length-rows b.rows b.columns (cells_of b.values.now b.flags.now))
