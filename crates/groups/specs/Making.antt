-- The plan of settings, or the settings back. Assumes nothing.
use Rattle.std.specs.Prelude.{◌≡◌, Bool, true, List, None, Ok, Err, Result}
use Rattle.cells.specs.Rows.{CellOf}
use Rattle.group_by.specs.declared.physical.PhysicalGroupBy.{PhysicalGroupBy}
use Rattle.group_by.specs.Groupings.{group_by}
use Rattle.group_by.specs.Sets.{IdsDiffer}
use Rattle.accumulators.specs.Aggregations.{Aggregation}
use Rattle.model.specs.Questions.{settings_fault}
use Rattle.groups.specs.declared.plan.Plan.{Plan}
use Rattle.cells.specs.declared.refused.Refused.{Refused}
use Rattle.groups.specs.declared.settings.SettingsFault.{SettingsFault}
use Rattle.groups.specs.declared.settings.Settings.{Settings}
use Rattle.groups.specs.declared.settings.SettingsFault.TheVariants.{Memory}
use Rattle.groups.specs.Plans.{settings_of}
use Rattle.groups.specs.Settings.{given_settings, given_setup, settings_refusal}

-- settings come back as they were passed; only grouping sets want memory, once every question is answered yes
abbrev pub Planned : {S : Type 0} → Aggregation S → (List CellOf → Bool) → Settings PhysicalGroupBy → Bool → Result Plan (Refused (Settings PhysicalGroupBy) SettingsFault) → Type 0
Planned a admitted s new (Ok p) =
    (settings_fault (given_setup a admitted s) new ≡ None)
    × (settings_of p ≡ given_settings s)
    × ((group_by s.group_by).grouped ≡ true → IdsDiffer (group_by s.group_by).sets)
Planned a admitted s new (Err r) =
    (settings_refusal r.fault ≡ settings_fault (given_setup a admitted s) new)
    × (r.given ≡ s)
    × (r.fault ≡ Memory → (group_by s.group_by).grouped ≡ true)
