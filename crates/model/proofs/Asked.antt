-- What it says of settings that no question is answered no.
use Rattle.std.proofs.Common.{◌≡◌, ℕ, ◌≤◌, Bool, true, false, ◌&&◌, eqb, leb, [], length, None, Option, refl, sym, ◌∙◌}
use Rattle.std.specs.List.{list_all}
use Rattle.std.proofs.lemmas.Bool.{and_parts, cond-true, cond-false, eqb-true, leb-true}
use Rattle.std.proofs.lemmas.List.Sums.{AllPass-from_list_all}
use Rattle.cells.specs.Refusals.{Refusal}
use Rattle.group_by.specs.Groupings.{GroupBy}
use Rattle.group_by.specs.Sets.{Over}
use Rattle.model.specs.Setups.{Setup, num_sets}
use Rattle.model.specs.Questions.{between, unless, batch_size_ok, parts_ok, columns_ok, masks_ok, sets_ok, order_ok, ratio_ok, settings_fault}
use Rattle.model.proofs.Cases.{never}

passed : (ok : Bool) (n : ℕ) (next : Option Refusal) → unless ok n next ≡ None → (ok ≡ true) × (next ≡ None)
passed true n next e = (refl, e)
passed false n next e = never (cc)

pub within : (low high n : ℕ) → between low high n ≡ true → (low ≤ n) × (n ≤ high)
within low high n e =
    let p = and_parts (leb low n) (leb n high) e in
    (leb-true low n p.0, leb-true n high p.1)

module _ {S : Type 0} (u : Setup S) (new : Bool) (fine : settings_fault u new ≡ None) where
  abbrev gb : GroupBy
  gb = u.settings.group_by

  -- what is left to ask after the fourth question, and after the second
  abbrev from_fifth : Option Refusal
  from_fifth = unless (order_ok u.settings) 5 (unless (ratio_ok u.settings) 6 None)

  abbrev from_third : Option Refusal
  from_third = unless (columns_ok u.settings) 3 (unless (sets_ok u.settings u.admitted) 4 from_fifth)

  first : (batch_size_ok u.settings ≡ true) × (unless (parts_ok u.settings u.aggregation && new) 2 from_third ≡ None)
  first = passed (batch_size_ok u.settings) 1 _ fine

  second : ((parts_ok u.settings u.aggregation && new) ≡ true) × (from_third ≡ None)
  second = passed (parts_ok u.settings u.aggregation && new) 2 from_third first.1

  fourth : (sets_ok u.settings u.admitted ≡ true) × (from_fifth ≡ None)
  fourth = passed (sets_ok u.settings u.admitted) 4 from_fifth (passed (columns_ok u.settings) 3 _ second.1).1

  pub parts_asked : (parts_ok u.settings u.aggregation ≡ true) × (new ≡ true)
  parts_asked = and_parts (parts_ok u.settings u.aggregation) new second.0

  pub order_asked : order_ok u.settings ≡ true
  order_asked = (passed (order_ok u.settings) 5 _ fourth.1).0

  -- without grouping sets there is one set
  pub plain_set : gb.grouped ≡ false → num_sets u.settings ≡ 1
  plain_set e = eqb-true (length gb.sets) 1 (and_parts _ _ (sym (cond-false gb.grouped _ _ e) ∙ fourth.0)).0

  module _ (grouped : gb.grouped ≡ true) where
    fit : Bool
    fit = list_all (λ marks. eqb (length marks) (length gb.columns)) gb.sets

    sized : ((between 1 8 (length gb.sets) && fit) ≡ true) × (masks_ok u.settings u.admitted 0 gb.sets ≡ true)
    unfolding fit
    sized = and_parts _ _ (sym (cond-true gb.grouped _ _ grouped) ∙ fourth.0)

    pub masks_asked : masks_ok u.settings u.admitted 0 gb.sets ≡ true
    masks_asked = sized.1

    pub several : (1 ≤ length gb.sets) × (length gb.sets ≤ 8)
    several = within 1 8 (length gb.sets) (and_parts (between 1 8 (length gb.sets)) fit sized.0).0

    pub over : Over (length gb.columns) gb.sets
    unfolding fit
    over i l = eqb-true _ _ (AllPass-from_list_all _ gb.sets (and_parts (between 1 8 (length gb.sets)) fit sized.0).1 i [] l)
