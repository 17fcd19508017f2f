use Rattle.std.proofs.Common.{◌≡◌, true, false, length, sym, ◌∙◌, rules}
use Rattle.std.proofs.lemmas.Bool.{and_left, and_right}
use Rattle.model.specs.Questions.{between, distinct}
use Rattle.groups.proofs.Positions.{distinct_is}
use Rattle.groups.proofs.questions.positions_ok.Goals as goal
use Rattle.groups.proofs.questions.positions_ok.Goals.{then-contains, else-contains}

pub returns-then-distinct_positions : goal.returns-then-distinct_positions
returns-then-distinct_positions c =
    elim c.if-contains.branch [
      | then-contains w ↦
          let d : distinct c.args.positions.now ≡ true = sym (distinct_is c.args.positions.now _ w.distinct_positions.ensures) ∙ sym w.value-is ∙ c.if-distinct_positions.true in
          let b : between 1 c.args.columns (length c.args.positions.now) ≡ true = search rules in
          search (rules, d, b)
      | else-contains w ↦ cc
    ]

pub returns-else-distinct_positions : goal.returns-else-distinct_positions
returns-else-distinct_positions c =
    elim c.if-contains.branch [
      | then-contains w ↦
          let d : distinct c.args.positions.now ≡ false = sym (distinct_is c.args.positions.now _ w.distinct_positions.ensures) ∙ sym w.value-is ∙ c.if-distinct_positions.false in
          c.if-distinct_positions.false ∙ sym (and_right _ _ (and_left _ _ d))
      | else-contains w ↦
          let b : between 1 c.args.columns (length c.args.positions.now) ≡ false = search rules in
          c.if-distinct_positions.false ∙ sym (and_left _ _ b)
    ]
