use Rattle.std.proofs.Common.{◌≡◌, ◌<◌, List, Bool, [], length, get_or, vec_items, Vec, sym, ap, ◌∙◌, arith}
use Rattle.std.specs.declared.alloc.Global.{Global}
use Rattle.std.proofs.lemmas.List.{length-map}
use Rattle.group_by.specs.Sets.{sets_of}
use Rattle.group_by.proofs.Ordinals.{marks_at}
use Rattle.model.specs.Questions.{all_masked}
use Rattle.groups.specs.Settings.{given_settings}
use Rattle.groups.proofs.Marks.{kept_more, admitted_more, refused_here}
use Rattle.groups.proofs.grouping.Settings.masks_ok.Goals as goal
use Rattle.groups.proofs.grouping.Settings.masks_ok.Goals.{else-all_masked-via-then-all_masked+else-not-admits, else-all_masked-via-else-all_masked}

pub returns-then-not-admits : goal.returns-then-not-admits
returns-then-not-admits g c =
    let st = given_settings c.args.self.now in
    let admitted = g.G.GroupValues.admitted in
    let s = c.loop-set.set in
    let l : s < length st.group_by.sets = omega (arith, length-map (vec_items c.args.self.now.group_by.groups) vec_items, ap length c.deref-marks-items.ensures.value) in
    let is : c.deref.result.now ≡ get_or st.group_by.sets s [] =
    c.deref.ensures.value ∙ marks_at c.deref-marks-items.result.now s _ c.loop-set-test.true c.marks-item.is ∙ ap (λ (xs : List (Vec Bool Global)). get_or (sets_of xs) s []) c.deref-marks-items.ensures.value in
    refused_here st admitted s l c.loop-set.invariant (sym (ap all_masked is) ∙ sym c.all_masked.ensures ∙ c.if-all_masked.true)
    (ap admitted (sym c.set_key.ensures) ∙ sym c.admits.ensures ∙ c.if-not-admits.true)

pub loop-set-preserved : goal.loop-set-preserved
loop-set-preserved g c =
    let st = given_settings c.args.self.now in
    let admitted = g.G.GroupValues.admitted in
    let s = c.loop-set.set in
    let l : s < length st.group_by.sets = omega (arith, length-map (vec_items c.args.self.now.group_by.groups) vec_items, ap length c.deref-marks-items.ensures.value) in
    let is : c.deref.result.now ≡ get_or st.group_by.sets s [] =
    c.deref.ensures.value ∙ marks_at c.deref-marks-items.result.now s _ c.loop-set-test.true c.marks-item.is ∙ ap (λ (xs : List (Vec Bool Global)). get_or (sets_of xs) s []) c.deref-marks-items.ensures.value in
    elim c.else-all_masked.branch [
      | else-all_masked-via-then-all_masked+else-not-admits w ↦
          admitted_more st admitted s l c.loop-set.invariant (ap admitted (sym w.set_key.ensures) ∙ sym w.admits.ensures ∙ w.if-not-admits.false)
      | else-all_masked-via-else-all_masked w ↦
          kept_more st admitted s l c.loop-set.invariant (sym (ap all_masked is) ∙ sym c.all_masked.ensures ∙ w.if-all_masked.false)
    ]
