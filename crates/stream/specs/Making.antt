-- A stream of new parts, or what was passed back. Assumes nothing.
use Rattle.std.specs.Prelude.{◌≡◌, Bool, true, ◌&&◌, length, None, Ok, Err, Result, ◌==◌}
use Rattle.cells.specs.declared.refused.Refused.{Refused}
use Rattle.accumulators.specs.declared.groups_accumulator.GroupsAccumulator as GroupsAccumulator
use Rattle.group_values.specs.declared.group_values.GroupValues as GroupValues
use Rattle.memory.specs.declared.reservation.MemoryReservation as MemoryReservation
use Rattle.group_by.specs.declared.physical.PhysicalGroupBy.{PhysicalGroupBy}
use Rattle.groups.specs.declared.held.HeldGroups.{HeldGroups}
use Rattle.groups.specs.declared.settings.Settings.{Settings}
use Rattle.groups.specs.declared.settings.SettingsFault.{SettingsFault}
use Rattle.groups.specs.Plans.{settings_of}
use Rattle.groups.specs.Settings.{given_settings, given_setup, settings_refusal}
use Rattle.groups.specs.Held.{Narrow}
use Rattle.model.specs.Questions.{settings_fault}
use Rattle.model.specs.Machine.{start}
use Rattle.model.specs.Law.{Sensible}
use Rattle.stream.specs.declared.state.StreamParts.{StreamParts}
use Rattle.stream.specs.Streams.{StreamOf, model_of, setup_in}

-- no key, no state and no byte is held, and nothing was refused
abbrev pub are_new : {G A S R : Type 0} → GroupValues.Ghosts G → GroupsAccumulator.Ghosts A S → MemoryReservation.Ghosts R → StreamParts G A R → Bool
are_new g a r parts =
    (length (g.keys parts.group_values) == 0)
    && (length (a.states parts.accumulator) == 0 && (r.bytes parts.reservation == 0 && r.granted parts.reservation))

module _ {G A S R : Type 0} {g : GroupValues.Ghosts G} {a : GroupsAccumulator.Ghosts A S} where
  -- the parts that held groups were made of, with these settings and this reservation
  abbrev pub parts_in : Settings PhysicalGroupBy → HeldGroups G A S g a → R → StreamParts G A R
  parts_in settings held reservation = record {
    settings = settings;
    group_values = held.group_values;
    accumulator = held.accumulator;
    reservation = reservation;
  }

module _ {G A S R : Type 0} {g : GroupValues.Ghosts G} {a : GroupsAccumulator.Ghosts A S} {r : MemoryReservation.Ghosts R} where
  -- a stream that was made has the settings passed and the reservation passed, and holds nothing
  pub record Begins (parts : StreamParts G A R) (s : StreamOf g a r) : Type 0 where
    pub settled : settings_of s.plan ≡ given_settings parts.settings
    pub model : model_of s ≡ start (setup_in s)
    pub reservation_is : s.reservation ≡ parts.reservation
    pub empty : r.bytes parts.reservation ≡ 0
    pub granted : r.granted parts.reservation ≡ true
    pub sensible : Sensible (setup_in s)
    pub narrow : Narrow a.aggregation

  -- a stream exactly where every question is answered yes and there is memory; else the first that is not, and the parts
  -- as they were passed
  abbrev pub Founded : StreamParts G A R → Result (StreamOf g a r) (Refused (StreamParts G A R) SettingsFault) → Type 0
  Founded parts (Ok s) =
      (settings_fault (given_setup a.aggregation g.admitted parts.settings) (are_new g a r parts) ≡ None) × Begins parts s
  Founded parts (Err e) =
      (settings_refusal e.fault ≡ settings_fault (given_setup a.aggregation g.admitted parts.settings) (are_new g a r parts)) × (e.given ≡ parts)
