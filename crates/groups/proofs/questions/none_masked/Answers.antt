use Rattle.std.proofs.Common.{not, ◌∙◌, rules}
use borrow.Author.Tests.{tests}
use Rattle.std.proofs.lemmas.Bool.{ne_eqb}
use Rattle.std.proofs.lemmas.Iterator.{YieldsList-from_slice}
use Rattle.std.proofs.lemmas.Iterator.Search.{all_from_yields_List}
use Rattle.groups.proofs.Marks.{none_masks, other_length}
use Rattle.groups.proofs.questions.none_masked.Goals as goal

pub returns-then-marks-columns : goal.returns-then-marks-columns
returns-then-marks-columns c =
    all_from_yields_List not _ _ _ c.all.ensures.ran (YieldsList-from_slice c.args.marks.now cc) (λ x b q k. search (rules, tests))
    ∙ none_masks c.args.marks.now c.args.columns c.if-marks-columns.true

pub returns-else-marks-columns : goal.returns-else-marks-columns
returns-else-marks-columns c = ne_eqb _ _ c.if-marks-columns.false ∙ other_length c.args.marks.now c.args.columns c.if-marks-columns.false
