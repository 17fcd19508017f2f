use Rattle.std.proofs.Common.{◌≡◌, vec_items, rules}
use borrow.Author.Tests.{tests}
use Rattle.std.specs.List.{list_all}
use Rattle.std.proofs.lemmas.Iterator.{YieldsList-from_slice}
use Rattle.std.proofs.lemmas.Iterator.Search.{all_from_yields_List}
use Rattle.model.specs.Questions.{expr_in}
use Rattle.groups.proofs.questions.Settings.columns_ok.Goals as goal

pub returns-then-all_below : goal.returns-then-all_below
returns-then-all_below c =
    let e : c.all.result ≡ list_all (expr_in c.args.self.now.columns) (vec_items c.args.self.now.exprs) =
    all_from_yields_List _ _ _ c.all.result c.all.ensures.ran (YieldsList-from_slice (vec_items c.args.self.now.exprs) (cc)) (λ x b q k. search (rules, tests)) in
    search (rules, e)
