use Rattle.std.proofs.Common.{◌≤◌, length, ℕ, replicate, None, refl, ap, ◌∙◌, arith}
use Rattle.std.proofs.lemmas.List.{length-replicate}
use Rattle.cells.specs.Rows.{CellOf}
use Rattle.output.proofs.Making.{lent, made}
use Rattle.output.proofs.rows.built.Goals as goal

pub returns : goal.returns
returns g c =
    let key = c.args.key.now in
    let row = c.put_key-start.new.row in
    let k = c.put_key-start.result in
    let n = c.min.result in
    let no_cell : CellOf = None in
    let few : n ≤ 8 = omega arith in
    let absent = lent key row k n c.put_key-start.ensures.len c.put_key-start.ensures.bound few c.put_key-start.ensures.cells in (
      c.write.new.arg2,
      record { shown = _; shows = absent ∙ ap (λ (j : ℕ). replicate j no_cell) c.min.ensures; left = _; met = c.write.ensures; leaves = refl },
      c.from_slice.ensures ∙ made key row k n c.put_key-start.ensures.len c.put_key-start.ensures.bound few c.put_key-start.ensures.cells c.write.new.arg2
          (c.write.auto.arg2 ∙ ap length absent ∙ length-replicate n no_cell),
    )
