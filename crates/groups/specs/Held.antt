-- What held groups stand for. Assumes nothing.
use Rattle.std.specs.Prelude.{◌≡◌, ◌≤◌, Ok, Err, Result}
use Rattle.accumulators.specs.Aggregations.{Aggregation}
use Rattle.accumulators.specs.declared.groups_accumulator.GroupsAccumulator as GroupsAccumulator
use Rattle.group_values.specs.declared.group_values.GroupValues as GroupValues
use Rattle.order.specs.Orders.{Mode, start}
use Rattle.order.specs.Tracked.{order_of}
use Rattle.model.specs.Machine.{Groups, groups}
use Rattle.groups.specs.declared.held.HeldGroups.{HeldGroups}
use Rattle.groups.specs.declared.held.HeldRefused.{HeldRefused}

-- a row has room for the states and for the results
pub record Narrow {S : Type 0} (a : Aggregation S) : Type 0 where
  pub states : a.state_cells ≤ 8
  pub results : a.aggregates ≤ 8

module _ {G A S : Type 0} {table : GroupValues.Ghosts G} {accumulator : GroupsAccumulator.Ghosts A S} where
  abbrev pub held_of : HeldGroups G A S table accumulator → Groups S
  held_of h = groups (table.keys h.group_values) (accumulator.states h.accumulator) (order_of h.group_ordering)

  -- groups of the parts that were passed, of which no order is known yet; or the parts back
  abbrev pub HasHeld : G → A → Mode → Result (HeldGroups G A S table accumulator) (HeldRefused G A) → Type 0
  HasHeld t a mode (Ok h) = (h.group_values ≡ t) × (h.accumulator ≡ a) × (order_of h.group_ordering ≡ start mode)
  HasHeld t a mode (Err r) = (r.group_values ≡ t) × (r.accumulator ≡ a)
