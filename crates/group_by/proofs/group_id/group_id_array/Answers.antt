use Rattle.std.proofs.Common.{sym, arith}
use Rattle.group_by.proofs.Numbers.{id_fits}
use Rattle.group_by.proofs.Worked.{group_id_cases}
use Rattle.group_by.proofs.group_id.group_id_array.Goals as goal

pub returns-in_err-check_id-clause-cases : goal.returns-in_err-check_id-clause-cases
returns-in_err-check_id-clause-cases c = group_id_cases

pub full_id-requires : goal.full_id-requires
full_id-requires c =
    id_fits c.args.group.now c.args.ordinal c.args.max_ordinal (omega arith) (sym c.in_ok-check_id.ensures)

pub returns-clause-cases : goal.returns-clause-cases
returns-clause-cases c = group_id_cases
