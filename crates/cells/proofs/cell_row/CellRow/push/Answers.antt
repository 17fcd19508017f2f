use Rattle.std.proofs.Common.{◌≡◌, ℕ, List, length, take, set, sym, ap, ◌∙◌, arith, length-set, length-take-le}
use Rattle.std.proofs.lemmas.List.{take_more_set}
use Rattle.cells.specs.Rows.{CellOf}
use Rattle.cells.specs.Filled.{filled}
use Rattle.cells.proofs.Filled.{filled_more}
use Rattle.cells.proofs.cell_row.CellRow.push.Goals as goal

pub invariant_of-self : goal.invariant_of-self
invariant_of-self g c =
    let r = c.self.inside in
    let l : length (take r.len r.cells) ≡ r.len = length-take-le r.len r.cells (omega (arith, c.self.invariant.0, c.self.invariant.1)) in
    let whole = ap (λ (cells : List CellOf). set cells r.len c.args.cell) c.self.invariant.2 in
    let more = filled_more g.row.N (take r.len r.cells) c.args.cell (omega (arith, l, c.if-self.true)) in
    let at = ap (λ (k : ℕ). set (filled g.row.N (take r.len r.cells)) k c.args.cell) (sym l) in
    let front = take_more_set r.cells r.len c.args.cell (omega (arith, c.self.invariant.1, c.if-self.true)) in
    (omega arith, length-set r.cells r.len c.args.cell ∙ c.self.invariant.1, whole ∙ at ∙ more ∙ sym (ap (filled g.row.N) front))
