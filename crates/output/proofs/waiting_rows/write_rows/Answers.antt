-- Row by row, a row more is written of the values and of the flags.
use Rattle.std.proofs.Common.{◌≡◌, ◌+◌, List, [], ◌∷◌, ◌++◌, length, take, sym, ap, ◌∙◌, arith}
use Rattle.std.proofs.lemmas.List.{length-take-le, take_more}
use Rattle.cells.specs.Rows.{CellOf}
use Rattle.output.specs.Slices.{value_of, flag_of}
use Rattle.output.proofs.Writing.{row_written}
use Rattle.output.proofs.waiting_rows.write_rows.Goals as goal

pub loop-number-preserved : goal.loop-number-preserved
loop-number-preserved c =
    let rows = c.args.rows.now in
    let n = c.loop-number.number in
    let row = c.index-rows-number.result in
    let before = take n rows in
    let count : length before ≡ n = length-take-le n rows (omega arith) in
    let more : take (n + 1) rows ≡ before ++ row ∷ [] =
    take_more rows n row c.loop-number-test.true ∙ ap (λ (r : List CellOf). before ++ r ∷ []) (sym c.index-rows-number.is) in (
      row_written value_of c.args.values.now c.loop-number.values c.write_row.new.values (omega arith) c.args.width n c.saturating_mul.result before _ row count more c.loop-number.invariant.0 c.saturating_mul.ensures c.write_row.ensures.values,
      row_written flag_of c.args.flags.now c.loop-number.flags c.write_row.new.flags (omega arith) c.args.width n c.saturating_mul.result before _ row count more c.loop-number.invariant.1 c.saturating_mul.ensures c.write_row.ensures.flags,
    )
