use Rattle.std.proofs.Common.{◌≡◌, drop}
use Rattle.model.specs.Questions.{masks_ok}
use Rattle.groups.specs.Settings.{given_settings}
use Rattle.groups.proofs.grouping.Settings.masks_ok.Given as goal

-- The keys of the sets so far are admitted.
abbrev pub invariant-loop-set : goal.invariant-loop-set
invariant-loop-set g l =
    let st = given_settings l.self in
    masks_ok st g.G.GroupValues.admitted l.set (drop l.set st.group_by.sets) ≡ masks_ok st g.G.GroupValues.admitted 0 st.group_by.sets
