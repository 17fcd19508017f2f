use Rattle.std.proofs.Common.{rules}
use lib.Ieee.{round, units, odd, size, span, climb, of_bits, of_fields}
use Rattle.groups.proofs.plan.Plan.probes.Goals as goal

pub returns-then-not-group_by : goal.returns-then-not-group_by
unfolding round units odd size span climb of_bits of_fields
returns-then-not-group_by c = search rules
