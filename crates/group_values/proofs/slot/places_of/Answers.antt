-- Each slot is given its place.
use Rattle.std.proofs.Common.{ℕ, List, subst}
use Rattle.std.proofs.lemmas.List.{take_all}
use Rattle.group_values.specs.Slots.{SlotIndex}
use Rattle.group_values.specs.SlotsLemmas.{index_none, index_more}
use Rattle.group_values.proofs.slot.places_of.Goals as goal

pub loop-place-init : goal.loop-place-init
loop-place-init c = index_none

pub loop-place-preserved : goal.loop-place-preserved
loop-place-preserved c =
    rw c.from.ensures
    (index_more c.args.slots.now c.loop-place.places c.loop-place.place c.loop-place-test.true c.requires.1.0 c.requires.1.1 c.loop-place.invariant)

pub returns : goal.returns
returns c =
    subst (λ (slots : List ℕ). SlotIndex slots c.loop-place.places) (take_all c.loop-place.place c.args.slots.now c.loop-place-test.false)
    c.loop-place.invariant
