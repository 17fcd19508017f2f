use Rattle.std.proofs.Common.{sym, refl, ap, ◌∙◌}
use Rattle.std.specs.Option.{option_map}
use Rattle.cells.proofs.Flags.{flag_at, fault_is}
use Rattle.cells.proofs.batch.Batch.new.Goals as goal

pub returns-in-Some : goal.returns-in-Some
returns-in-Some c =
    fault_is c.args.columns c.args.values.now c.args.flags.now c.if-columns-eq0.false c.if-values-columns-ne0.false c.if-flags-values.false c.if-rows-gt-MAX_BATCH_ROWS.false
    ∙ ap (option_map (flag_at c.args.columns)) (sym (c.in-Some.ensures))

pub returns-in-None : goal.returns-in-None
returns-in-None c = (
  fault_is c.args.columns c.args.values.now c.args.flags.now c.if-columns-eq0.false c.if-values-columns-ne0.false c.if-flags-values.false c.if-rows-gt-MAX_BATCH_ROWS.false
      ∙ ap (option_map (flag_at c.args.columns)) (sym (c.in-None.ensures)),
  refl,
)
