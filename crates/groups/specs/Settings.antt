-- What the settings that a caller passes stand for, and the refusals. Assumes nothing.
use Rattle.std.specs.Prelude.{◌≤◌, Bool, true, false, List, [], length, Some, None, Ok, Err, vec_items, Option, Result}
use Rattle.cells.specs.Refusals.{Refusal, refusal}
use Rattle.cells.specs.Rows.{CellOf}
use Rattle.group_by.specs.Groupings.{GroupBy, group_by}
use Rattle.group_by.specs.Sets.{Over}
use Rattle.accumulators.specs.Aggregations.{Aggregation}
use Rattle.order.specs.Tracked.{mode_of}
use Rattle.model.specs.Setups as setups
use Rattle.model.specs.Setups.{Setup}
use Rattle.group_by.specs.declared.physical.PhysicalGroupBy.{PhysicalGroupBy}
use Rattle.groups.specs.declared.settings.AggregateMode.{AggregateMode}
use Rattle.groups.specs.declared.settings.AggregateMode.TheVariants.{Partial, Single}
use Rattle.groups.specs.declared.settings.Settings.{Settings}
use Rattle.groups.specs.declared.settings.SettingsFault.{SettingsFault}
use Rattle.groups.specs.declared.settings.SettingsFault.TheVariants.{BatchSize, Parts, Columns, GroupingSets, Order, Ratio, Memory}

abbrev pub is_partial : AggregateMode → Bool
is_partial Partial = true
is_partial Single = false

-- settings, by what their grouping stands for
abbrev pub settings_by : {K : Type 0} → (K → GroupBy) → Settings K → setups.Settings
settings_by grouping s = record {
  partial = is_partial s.mode;
  batch_size = s.batch_size;
  columns = s.columns;
  group_by = grouping s.group_by;
  exprs = vec_items s.exprs;
  order = mode_of s.order;
  soft_limit = s.soft_limit;
  probe_rows = s.probe_rows;
  probe_ratio = s.probe_ratio;
}

abbrev pub given_settings : Settings PhysicalGroupBy → setups.Settings
given_settings s = settings_by group_by s

-- with what the accumulator computes and which keys the table admits
abbrev pub given_setup : {S : Type 0} → Aggregation S → (List CellOf → Bool) → Settings PhysicalGroupBy → Setup S
given_setup a admitted s = record { settings = given_settings s; aggregation = a; admitted = admitted }

-- want of memory is no refusal
abbrev pub settings_refusal : SettingsFault → Option Refusal
settings_refusal BatchSize = Some (refusal 1 [])
settings_refusal Parts = Some (refusal 2 [])
settings_refusal Columns = Some (refusal 3 [])
settings_refusal GroupingSets = Some (refusal 4 [])
settings_refusal Order = Some (refusal 5 [])
settings_refusal Ratio = Some (refusal 6 [])
settings_refusal Memory = None

-- the refusal of an answer, if it is one
abbrev pub refusal_of : Result Unit SettingsFault → Option Refusal
refusal_of (Ok _) = None
refusal_of (Err e) = settings_refusal e

-- few enough key columns and sets, with a mark for each column
pub record Sized (gb : GroupBy) : Type 0 where
  pub columns : length gb.columns ≤ 6
  pub sets : length gb.sets ≤ 8
  pub marks : Over (length gb.columns) gb.sets
