-- No slot is held, and none has a place.
use Rattle.std.proofs.Common.{ℕ, List, replicate, None, sym, subst}
use Rattle.group_values.specs.Slots.{SlotIndex}
use Rattle.group_values.specs.SlotsLemmas.{index_none}
use Rattle.group_values.proofs.small_table.GroupValuesSmall.new.Goals as goal

pub invariant_of-result : goal.invariant_of-result
invariant_of-result c = record { indexed = subst (λ (slots : List ℕ). SlotIndex slots (replicate 65 None)) (sym c.new.ensures) index_none }
