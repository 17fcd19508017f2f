use Rattle.std.proofs.Common.{List, Bool, Vec, ap, ◌∙◌, w64, SFits, arith, rules}
use Rattle.std.specs.declared.alloc.Global.{Global}
use Rattle.std.proofs.lemmas.Int.{to_z-of_z}
use Rattle.group_by.specs.Groupings.{group_by}
use Rattle.group_by.specs.Sets.{sets_of, id_at}
use Rattle.groups.proofs.Marks.{masked_is}
use Rattle.groups.proofs.grouping.set_key.Goals as goal

pub returns : goal.returns
returns c =
    let s = c.args.set in
    let f : SFits w64 c.set_id.result = search rules in
    masked_is (group_by c.args.group_by.now) s c.requires.0 c.requires.2 _ _ _ c.requires.1 (omega arith)
    (to_z-of_z w64 c.set_id.result f ∙ c.set_id.ensures ∙ ap (λ (xs : List (Vec Bool Global)). id_at (sets_of xs) s) c.deref.ensures.value)
    c.masked_key.ensures
