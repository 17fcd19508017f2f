-- What a stream is set up with, and what follows from it alone. Assumes nothing.
use Rattle.std.specs.Prelude.{ℕ, ◌+◌, ◌*◌, Bool, true, false, cond, not, ◌&&◌, List, ◌++◌, length, Some, None, Option, Float}
use Rattle.std.specs.Float.{binary64}
use Rattle.std.specs.Float.Ieee.{round, lt}
use Rattle.cells.specs.Rows.{CellOf}
use Rattle.group_by.specs.Groupings.{GroupBy, key_of}
use Rattle.aggregates.specs.declared.aggregate_expr.AggregateExpr.{AggregateExpr}
use Rattle.accumulators.specs.Aggregations.{Aggregation}
use Rattle.order.specs.Orders.{Mode, linear, sorted, partially}
use Rattle.order.specs.Skip.{Probe, fresh}

pub record Settings : Type 0 where
  -- states are handed out, and not results
  pub partial : Bool
  pub batch_size : ℕ
  -- how many cells a row of the input has
  pub columns : ℕ
  pub group_by : GroupBy
  pub exprs : List AggregateExpr
  pub order : Mode
  pub soft_limit : Option ℕ
  pub probe_rows : ℕ
  pub probe_ratio : Float

-- the settings, what the accumulator computes, and which keys the table admits
pub record Setup (S : Type 0) : Type 1 where
  pub settings : Settings
  pub aggregation : Aggregation S
  pub admitted : List CellOf → Bool

abbrev pub is_linear : Mode → Bool
is_linear linear = true
is_linear sorted = false
is_linear (partially positions) = false

-- the probe runs where rows may be passed on ungrouped
abbrev pub probes : Settings → Bool
probes st =
    (st.partial && is_linear st.order) && (not st.group_by.grouped && lt st.probe_ratio (round binary64 false 1 1))

abbrev pub first_probe : Settings → Option Probe
first_probe st = cond (probes st) (Some (fresh st.probe_rows st.probe_ratio)) None

abbrev pub num_sets : Settings → ℕ
num_sets st = length st.group_by.sets

-- the cells of a key: one for each key column, and the group id
abbrev pub key_width : Settings → ℕ
key_width st = length st.group_by.columns + cond st.group_by.grouped 1 0

-- the key of a row for a set
abbrev pub row_key : Settings → ℕ → List CellOf → List CellOf
row_key st s row = key_of st.group_by s row

module _ {S : Type 0} (u : Setup S) where
  -- the bytes that so many held groups need
  abbrev pub need : ℕ → ℕ
  need groups = 8 * groups * (key_width u.settings + u.aggregation.state_cells)

  -- a row as it is handed out: the key's cells, and behind them those of the state or of the results
  abbrev pub out_row : List CellOf → S → List CellOf
  out_row key s = key ++ cond u.settings.partial (u.aggregation.shows s) (u.aggregation.results s)

  abbrev pub out_width : ℕ
  out_width = key_width u.settings + cond u.settings.partial u.aggregation.state_cells u.aggregation.aggregates

  abbrev pub own : List CellOf → S
  own row = u.aggregation.own u.settings.exprs row
