use Rattle.std.proofs.Common.{◌+◌, ◌*◌, Bool, cond, get_or, pos, Some, None, sym, ap, ◌∙◌, w64, SFits, rules}
use Rattle.std.proofs.lemmas.Bool.{eq-eqb, ne_eqb}
use Rattle.std.proofs.lemmas.Int.{to_z-of_z}
use Rattle.cells.specs.Rows.{cells_of}
use Rattle.cells.proofs.Rows.{row_past, column_past, cell_is}
use Rattle.cells.proofs.batch.Batch.cell.Goals as goal
use Rattle.cells.proofs.batch.Batch.cell.Goals.{then-row-self-via-then-row-self, then-row-self-via-else-row-self+then-column-self}

pub returns-then-row-self : goal.returns-then-row-self
returns-then-row-self c =
    let b = c.args.self.now in
    let cells = cells_of b.values.now b.flags.now in
    elim c.then-row-self.branch [
      | then-row-self-via-then-row-self w ↦ sym (row_past b.rows b.columns cells c.args.row c.args.column w.if-row-self.true)
      | then-row-self-via-else-row-self+then-column-self w ↦ sym (column_past b.rows b.columns cells c.args.row c.args.column w.if-column-self.true)
    ]

pub returns-then-self-place-eq1 : goal.returns-then-self-place-eq1
returns-then-self-place-eq1 c =
    let b = c.args.self.now in
    let k = c.args.row * b.columns + c.args.column in
    let v = get_or b.values.now k (pos 0) in
    let f : SFits w64 v = search rules in
    ap Some (to_z-of_z w64 v f)
    ∙ ap (λ (t : Bool). cond t (Some v) None) (sym (eq-eqb (get_or b.flags.now k 0) 1 c.if-self-place-eq1.true))
    ∙ sym (cell_is b.rows b.columns b.values.now b.flags.now b.whole b.even c.args.row c.args.column c.if-row-self.false c.if-column-self.false)

pub returns-else-self-place-eq1 : goal.returns-else-self-place-eq1
returns-else-self-place-eq1 c =
    let b = c.args.self.now in
    let k = c.args.row * b.columns + c.args.column in
    ap (λ (t : Bool). cond t (Some (get_or b.values.now k (pos 0))) None) (sym (ne_eqb (get_or b.flags.now k 0) 1 c.if-self-place-eq1.false))
    ∙ sym (cell_is b.rows b.columns b.values.now b.flags.now b.whole b.even c.args.row c.args.column c.if-row-self.false c.if-column-self.false)
