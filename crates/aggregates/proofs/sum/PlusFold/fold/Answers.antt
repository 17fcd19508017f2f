-- The code's wrapping sum is the sum of integers, cut to 64 bits.
use Rattle.std.proofs.Common.{rules}
use Rattle.std.proofs.lemmas.Int.{wraps}
use Rattle.aggregates.proofs.sum.PlusFold.fold.Goals as goal

pub returns : goal.returns
returns c = search (rules, wraps)
