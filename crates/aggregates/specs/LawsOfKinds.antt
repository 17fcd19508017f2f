-- The five kinds are lawful.
use Rattle.std.specs.Prelude.{◌≡◌, true, false, cond, ℤ, Some, None, int_lt, refl}
use Rattle.std.proofs.Common.{ap, arith, lit<}
use Rattle.std.specs.Int.{int_min, w64}
use Rattle.std.proofs.lemmas.Int.{ints, clamps, SFits-int_wrap}
use Rattle.cells.specs.Rows.{CellOf}
use Rattle.aggregates.specs.Kinds.{LawfulKind}
use Rattle.aggregates.specs.Wrapping.{Fits, added, FitsCell, cut_cell}
use Rattle.aggregates.specs.Counts.{own_count, count_kind}
use Rattle.aggregates.specs.Values.{LawfulFold, join_cells, value_kind, sum_kind, min_kind, earliest_kind}
use Rattle.aggregates.specs.Means.{counted, own_mean, mean_kind}
use Rattle.aggregates.specs.Sums.{added-assoc, added-left, added-right, added-fits, cut_fits, number_fits, cut_cell-fits}

own_count-fits : (c : CellOf) → Fits (own_count c)
own_count-fits None = record { sfits = lit< tt }
own_count-fits (Some v) = record { sfits = lit< tt }

pub count-lawful : LawfulKind count_kind
count-lawful = record {
  assoc = added-assoc;
  neutral_left = added-left;
  neutral_right = added-right;
  neutral_sound = record { sfits = lit< tt };
  join_sound = λ a b f g. added-fits a b;
  own_sound = own_count-fits;
  own_absent = refl;
  shows_length = λ a. refl;
  reads_shows = cut_fits;
  reads_sound = λ cs. number_fits _;
}

module _ (f : ℤ → ℤ → ℤ) (law : LawfulFold f) where
  join_cells-assoc : (a b c : CellOf) → join_cells f (join_cells f a b) c ≡ join_cells f a (join_cells f b c)
  join_cells-assoc None b c = refl
  join_cells-assoc (Some u) None c = refl
  join_cells-assoc (Some u) (Some v) None = refl
  join_cells-assoc (Some u) (Some v) (Some w) = ap Some (law.assoc u v w)

  join_cells-right : (a : CellOf) → join_cells f a None ≡ a
  join_cells-right None = refl
  join_cells-right (Some u) = refl

  join_cells-fits : (a b : CellOf) → FitsCell a → FitsCell b → FitsCell (join_cells f a b)
  join_cells-fits None b p q = q
  join_cells-fits (Some u) None p q = p
  join_cells-fits (Some u) (Some v) p q = law.keeps u v p q

  cut_cell-is : (a : CellOf) → FitsCell a → cut_cell a ≡ a
  cut_cell-is None p = refl
  cut_cell-is (Some v) p = ap Some (cut_fits v p)

  pub value_lawful : LawfulKind (value_kind f)
  value_lawful = record {
    assoc = join_cells-assoc;
    neutral_left = λ a p. refl;
    neutral_right = λ a p. join_cells-right a;
    neutral_sound = tt;
    join_sound = join_cells-fits;
    own_sound = cut_cell-fits;
    own_absent = refl;
    shows_length = λ a. refl;
    reads_shows = cut_cell-is;
    reads_sound = λ cs. cut_cell-fits _;
  }

pub sum_folds : LawfulFold added
sum_folds = record { assoc = added-assoc; keeps = λ a b f g. added-fits a b }

pub sum-lawful : LawfulKind sum_kind
sum-lawful = value_lawful added sum_folds

int_min-assoc : (a b c : ℤ) → int_min (int_min a b) c ≡ int_min a (int_min b c)
int_min-assoc a b c = omega (arith, ints, clamps)

int_min-fits : (a b : ℤ) → Fits a → Fits b → Fits (int_min a b)
int_min-fits a b f g =
    elim (int_lt b a) as (λ t. Fits (cond t b a)) [ true ↦ g | false ↦ f ]

pub min_folds : LawfulFold int_min
min_folds = record { assoc = int_min-assoc; keeps = int_min-fits }

pub min-lawful : LawfulKind min_kind
min-lawful = value_lawful int_min min_folds

pub earliest_folds : LawfulFold (λ u v. u)
earliest_folds = record { assoc = λ a b c. refl; keeps = λ a b f g. f }

pub earliest_lawful : LawfulKind earliest_kind
earliest_lawful = value_lawful (λ u v. u) earliest_folds

same : (c d s t : ℤ) → c ≡ d → s ≡ t → counted c s ≡ counted d t
same c d s t e f = rw (e, f) refl

own_mean-fits : (c : CellOf) → mean_kind.sound (own_mean c)
own_mean-fits None = (record { sfits = lit< tt }, record { sfits = lit< tt })
own_mean-fits (Some v) = (record { sfits = lit< tt }, SFits-int_wrap w64 v)

pub mean_lawful : LawfulKind mean_kind
mean_lawful = record {
  assoc = λ a b c. same _ _ _ _ (added-assoc a.count b.count c.count) (added-assoc a.sum b.sum c.sum);
  neutral_left = λ a h. same _ _ _ _ (added-left a.count h.0) (added-left a.sum h.1);
  neutral_right = λ a h. same _ _ _ _ (added-right a.count h.0) (added-right a.sum h.1);
  neutral_sound = (record { sfits = lit< tt }, record { sfits = lit< tt });
  join_sound = λ a b f g. (added-fits a.count b.count, added-fits a.sum b.sum);
  own_sound = own_mean-fits;
  own_absent = refl;
  shows_length = λ a. refl;
  reads_shows = λ a h. same _ _ _ _ (cut_fits a.count h.0) (cut_fits a.sum h.1);
  reads_sound = λ cs. (number_fits _, number_fits _);
}
