-- Column by column, a cell more is written of the values and of the flags.
use Rattle.std.proofs.Common.{sym, ap, ◌∙◌, arith, w64, SFits, rules}
use Rattle.std.proofs.lemmas.Int.{to_z-of_z}
use Rattle.output.specs.Slices.{value_of, flag_of}
use Rattle.output.proofs.Writing.{put_none, cell_written}
use Rattle.output.proofs.waiting_rows.write_row.Goals as goal

pub loop-column-init : goal.loop-column-init
loop-column-init c = (sym (put_none c.args.start c.args.values.now), sym (put_none c.args.start c.args.flags.now))

pub loop-column-preserved : goal.loop-column-preserved
loop-column-preserved c =
    let row = c.args.row.now in
    let n = c.loop-column.column in
    let place = c.saturating_add-place.result in
    let value = c.parts-value.result.0 in
    let fits : SFits w64 value = search rules in (
      cell_written value_of c.args.values.now c.loop-column.values c.put.new.slice (omega arith) row c.args.start n place _ c.loop-column.invariant.0 c.saturating_add-place.ensures
          (to_z-of_z w64 value fits ∙ c.parts-value.ensures.value ∙ ap value_of c.cell.ensures) c.put.ensures,
      cell_written flag_of c.args.flags.now c.loop-column.flags c.put-in-loop-column.new.slice (omega arith) row c.args.start n place _ c.loop-column.invariant.1 c.saturating_add-place.ensures
          (c.parts-value.ensures.flag ∙ ap flag_of c.cell.ensures) c.put-in-loop-column.ensures,
    )
