-- The ids that were worked out by hand are what the definition gives.
use Rattle.std.proofs.Common.{refl}
use lib.Count.{count_leading_zeros}
use Rattle.group_by.specs.Cases.{GroupIdCases}

pub group_id_cases : GroupIdCases
unfolding count_leading_zeros
group_id_cases = record { alone = refl; second = refl; widest = refl; too_wide = refl }
