use Rattle.std.proofs.Common.{arith}
use Rattle.group_by.proofs.Numbers.{digits_are}
use Rattle.group_by.proofs.group_id.ordinal_bits.Goals as goal

pub returns-clause-least : goal.returns-clause-least
returns-clause-least c = digits_are c.args.max_ordinal (omega arith)
