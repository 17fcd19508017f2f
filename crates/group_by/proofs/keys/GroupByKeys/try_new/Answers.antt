use Rattle.std.proofs.Common.{Bool, List, Vec, subst, rules}
use Rattle.std.specs.declared.alloc.Global.{Global}
use Rattle.group_by.specs.Sets.{sets_of, IdsDiffer}
use Rattle.group_by.proofs.keys.GroupByKeys.try_new.Goals as goal

pub returns-in-Ok : goal.returns-in-Ok
returns-in-Ok c =
    let has = c.in-Ok.ensures in (
      search rules,
      search rules,
      λ grouped. subst (λ (groups : List (Vec Bool Global)). IdsDiffer (sets_of groups)) c.deref.ensures.value has.2,
    )
