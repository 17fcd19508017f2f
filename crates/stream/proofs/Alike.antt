-- A stream made again of another's parts is that stream: what ties the parts has one proof.
use Rattle.std.proofs.Common.{◌≡◌, ◌≤◌, ℕ, Bool, true, is_some}
use Rattle.std.proofs.Props.{props}
use Rattle.accumulators.specs.Aggregations.{Aggregation}
use Rattle.accumulators.specs.declared.groups_accumulator.GroupsAccumulator as GroupsAccumulator
use Rattle.group_values.specs.declared.group_values.GroupValues as GroupValues
use Rattle.memory.specs.declared.reservation.MemoryReservation as MemoryReservation
use Rattle.groups.specs.Held.{Narrow}
use Rattle.groups.specs.Settings.{is_partial}
use Rattle.stream.specs.Passing.{passes_on}
use Rattle.stream.specs.Streams.{StreamOf}

tie_prop : (a b : Bool) → IsProp (a ≡ true → b ≡ true)
tie_prop a b = hlevel props

le_prop : (m n : ℕ) → IsProp (m ≤ n)
le_prop m n = hlevel props

narrow_prop : {S : Type 0} (a : Aggregation S) → IsProp (Narrow a)
narrow_prop a p q = λ i. record { states = le_prop _ _ p.states q.states i; results = le_prop _ _ p.results q.results i }

module _ {G A S R : Type 0} {table : GroupValues.Ghosts G} {accumulator : GroupsAccumulator.Ghosts A S} {memory : MemoryReservation.Ghosts R} where
  pub rebuilt : (s : StreamOf table accumulator memory) (n : Narrow accumulator.aggregation) (p : is_some s.skip_aggregation_probe ≡ true → is_partial s.plan.settings.mode ≡ true)
      (q : passes_on s.exec_state ≡ true → is_partial s.plan.settings.mode ≡ true) → ◌≡◌ {A = StreamOf table accumulator memory} (record s { narrow = n; probing = p; passing = q }) s
  rebuilt s n p q = λ i. record s { narrow = narrow_prop _ n s.narrow i; probing = tie_prop _ _ p s.probing i; passing = tie_prop _ _ q s.passing i }
