use Rattle.std.proofs.Common.{◌≡◌, ◌+◌, ◌≤◌, take}
use Rattle.std.specs.HashMap.{hash_map_len, spare}
use Rattle.group_values.specs.Places.{Indexed}
use Rattle.group_values.proofs.places.rebuild.Given as goal

-- The keys so far are added, and there is room for the others.
abbrev pub invariant-loop-place : goal.invariant-loop-place
invariant-loop-place l = Indexed (take l.place l.keys) l.places × (hash_map_len l.places ≡ l.place) × (512 ≤ l.place + spare l.places)
