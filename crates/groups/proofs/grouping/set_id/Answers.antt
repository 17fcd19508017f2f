use Rattle.std.proofs.Common.{◌≡◌, ℕ, Bool, List, [], get_or, ap, ◌∙◌, arith, w64, SFits, to_z, rules}
use Rattle.std.proofs.lemmas.Int.{to_z-of_z}
use Rattle.group_by.specs.Ids.{id_of}
use Rattle.group_by.specs.Sets.{sets_of, ordinal_of}
use Rattle.group_by.proofs.Ordinals.{ordinal_is, marks_at}
use Rattle.groups.proofs.Marks.{answered, answer_is}
use Rattle.groups.proofs.grouping.set_id.Goals as goal

pub returns : goal.returns
returns c =
    let groups = c.args.groups.now in
    let i = c.args.set in
    let sets = sets_of groups in
    let marks = c.deref.result.now in
    let o : c.count_equal-ordinal.result ≡ ordinal_of sets i = ordinal_is groups i _ _ c.index-groups-set.result c.requires.0 (omega arith) c.index-groups-set.is c.count_equal-ordinal.ensures.count in
    let is : marks ≡ get_or sets i [] = c.deref.ensures.value ∙ marks_at groups i c.index-groups-set-2.result c.requires.0 c.index-groups-set-2.is in
    let r = answer_is _ _ (c.group_id_array.ensures.answer ∙ answered groups i _ marks c.requires.1 c.requires.2 o is) in
    let m : c.map_or.result ≡ to_z w64 (id_of marks c.count_equal-ordinal.result) = let k = rw r at c.map_or.ensures in search (rules, k) in
    let f : SFits w64 c.map_or.result = search rules in
    to_z-of_z w64 c.map_or.result f
    ∙ m
    ∙ ap (λ (k : ℕ). to_z w64 (id_of marks k)) o
    ∙ ap (λ (ms : List Bool). to_z w64 (id_of ms (ordinal_of sets i))) is
