use Rattle.std.proofs.Common.{take}
use Rattle.group_values.specs.Slots.{SlotIndex}
use Rattle.group_values.proofs.slot.places_of.Given as goal

-- The slots so far have their places.
abbrev pub invariant-loop-place : goal.invariant-loop-place
invariant-loop-place l = SlotIndex (take l.place l.slots) l.places
