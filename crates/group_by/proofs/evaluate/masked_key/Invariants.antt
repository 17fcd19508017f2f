use Rattle.std.proofs.Common.{◌≡◌, take, replicate, None}
use Rattle.group_by.proofs.evaluate.masked_key.Given as goal

-- As many absent cells as there were turns.
abbrev pub invariant-loop : goal.invariant-loop
invariant-loop l = l.key ≡ take 7 (replicate l.counter None)
