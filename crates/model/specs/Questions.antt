-- The questions that settings are asked before a stream is made. Assumes nothing.
use Rattle.std.specs.Prelude.{ℕ, suc, Bool, true, false, cond, not, ◌&&◌, ◌||◌, List, [], ◌∷◌, length, replicate, Some, None, Option, ◌==◌, nat_eq, nat_le, nat_lt}
use Rattle.std.specs.List.{list_all, list_any}
use Rattle.std.specs.Float.{binary64}
use Rattle.std.specs.Float.Ieee.{round, le}
use Rattle.cells.specs.Refusals.{Refusal, refusal}
use Rattle.group_by.specs.Groupings.{masked_key}
use Rattle.group_by.specs.Sets.{same_marks}
use Rattle.cells.specs.Rows.{CellOf}
use Rattle.accumulators.specs.Aggregations.{Aggregation}
use Rattle.aggregates.specs.declared.aggregate_expr.AggregateExpr.{AggregateExpr}
use Rattle.order.specs.Orders.{Mode, linear, sorted, partially}
use Rattle.model.specs.Setups.{Settings, Setup}

abbrev pub distinct : List ℕ → Bool
distinct [] = true
distinct (x ∷ xs) = not (list_any (λ y. y == x) xs) && distinct xs

abbrev pub between : ℕ → ℕ → ℕ → Bool
between low high n = nat_le low n && nat_le n high

abbrev pub in_columns : ℕ → Option ℕ → Bool
in_columns columns None = true
in_columns columns (Some c) = nat_lt c columns

abbrev pub expr_in : ℕ → AggregateExpr → Bool
expr_in columns e = nat_lt e.argument columns && in_columns columns e.filter

-- every mark masks its column
abbrev pub all_masked : List Bool → Bool
all_masked marks = list_all (λ m. m) marks

module _ (st : Settings) where
  abbrev pub batch_size_ok : Bool
  batch_size_ok = between 1 512 st.batch_size

  -- the key columns, the aggregates and the state cells are few enough, and as many aggregates are named as carried
  abbrev pub parts_ok : {S : Type 0} → Aggregation S → Bool
  parts_ok a =
      (between 1 6 (length st.group_by.columns) && between 1 4 (length st.exprs))
      && (length st.exprs == a.aggregates && nat_le a.state_cells 8)

  abbrev pub columns_ok : Bool
  columns_ok =
      between 1 16 st.columns
      && (list_all (λ c. nat_lt c st.columns) st.group_by.columns && list_all (expr_in st.columns) st.exprs)

  -- the keys of the wholly masked sets, from the s-th set on, are admitted
  abbrev pub masks_ok : (List CellOf → Bool) → ℕ → List (List Bool) → Bool
  masks_ok admitted s [] = true
  masks_ok admitted s (marks ∷ sets) = (not (all_masked marks) || admitted (masked_key st.group_by s)) && masks_ok admitted (suc s) sets

  abbrev pub sets_ok : (List CellOf → Bool) → Bool
  sets_ok admitted =
      let gb = st.group_by in
      cond gb.grouped
      ((between 1 8 (length gb.sets) && list_all (λ marks. nat_eq (length marks) (length gb.columns)) gb.sets) && masks_ok admitted 0 gb.sets)
      (length gb.sets == 1 && list_all (λ marks. same_marks marks (replicate (length gb.columns) false)) gb.sets)

  abbrev pub order_ok_in : Mode → Bool
  order_ok_in linear = true
  order_ok_in sorted = not st.group_by.grouped
  order_ok_in (partially positions) =
      (not st.group_by.grouped && between 1 (length st.group_by.columns) (length positions))
      && (distinct positions && list_all (λ p. nat_lt p (length st.group_by.columns)) positions)

  abbrev pub order_ok : Bool
  order_ok = order_ok_in st.order

  -- a number of at least 0; no comparison holds of what is no number
  abbrev pub ratio_ok : Bool
  ratio_ok = le (round binary64 false 0 1) st.probe_ratio

abbrev pub unless : Bool → ℕ → Option Refusal → Option Refusal
unless ok number next = cond ok next (Some (refusal number []))

-- the first question that is answered no; `new` tells whether table, accumulator and reservation are new
abbrev pub settings_fault : {S : Type 0} → Setup S → Bool → Option Refusal
settings_fault u new =
    let st = u.settings in
    unless (batch_size_ok st) 1
    (unless (parts_ok st u.aggregation && new) 2
    (unless (columns_ok st) 3 (unless (sets_ok st u.admitted) 4 (unless (order_ok st) 5 (unless (ratio_ok st) 6 None)))))
