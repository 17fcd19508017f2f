-- The sort key of the positions read so far.
use Rattle.std.proofs.Common.{◌≡◌, take}
use Rattle.order.specs.Runs.{sort_key}
use Rattle.order.proofs.partial.GroupOrderingPartial.sort_key.Given as goal

abbrev pub invariant-loop-position : goal.invariant-loop-position
invariant-loop-position l = l.sort_key ≡ sort_key (take l.position-index l.position-items) l.key
