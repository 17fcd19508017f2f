-- What holds of settings that pass their questions.
use Rattle.std.proofs.Common.{◌≡◌, Bool, true, ◌&&◌, eqb, leb, length, None, arith}
use Rattle.std.proofs.lemmas.Bool.{leb-true, eqb-true, and_parts}
use Rattle.model.specs.Questions.{between, parts_ok, settings_fault}
use Rattle.model.specs.Setups.{Setup}
use Rattle.model.proofs.Asked.{within, parts_asked}
use Rattle.groups.specs.Held.{Narrow}

module _ {S : Type 0} (u : Setup S) (new : Bool) (passed : settings_fault u new ≡ None) where
  parts : parts_ok u.settings u.aggregation ≡ true
  parts = (parts_asked u new passed).0

  pub parts_new : new ≡ true
  parts_new = (parts_asked u new passed).1

  abbrev counts : Bool
  counts = between 1 6 (length u.settings.group_by.columns) && between 1 4 (length u.settings.exprs)

  pub few_cells : Narrow u.aggregation
  few_cells =
      let as_many = eqb (length u.settings.exprs) u.aggregation.aggregates in
      let fewer = leb u.aggregation.state_cells 8 in
      let both = and_parts counts (as_many && fewer) parts in
      let exprs = within 1 4 (length u.settings.exprs) (and_parts _ (between 1 4 (length u.settings.exprs)) both.0).1 in
      let carried = and_parts as_many fewer both.1 in record {
        states = leb-true u.aggregation.state_cells 8 carried.1;
        results = omega (arith, exprs.1, eqb-true (length u.settings.exprs) u.aggregation.aggregates carried.0);
      }
