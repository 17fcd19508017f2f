-- The settings that a plan stands for. Assumes nothing.
use Rattle.std.specs.Prelude.{ℕ, Bool, ◌&&◌, List, [], nat_lt, slice_index_or}
use Rattle.group_by.specs.Keys.{keys_of}
use Rattle.accumulators.specs.Aggregations.{Aggregation}
use Rattle.cells.specs.Rows.{CellOf}
use Rattle.model.specs.Questions.{all_masked}
use Rattle.model.specs.Setups.{Settings, Setup, num_sets}
use Rattle.groups.specs.declared.plan.Plan.{Plan}
use Rattle.groups.specs.Settings.{settings_by}

abbrev pub settings_of : Plan → Settings
settings_of p = settings_by keys_of p.settings

-- with what the accumulator computes and which keys the table admits
abbrev pub setup_of : {S : Type 0} → Aggregation S → (List CellOf → Bool) → Plan → Setup S
setup_of a admitted p = record { settings = settings_of p; aggregation = a; admitted = admitted }

-- a grouping set of which every column is masked
abbrev pub is_grand : Settings → ℕ → Bool
is_grand st s = st.group_by.grouped && (nat_lt s (num_sets st) && all_masked (slice_index_or st.group_by.sets s []))
