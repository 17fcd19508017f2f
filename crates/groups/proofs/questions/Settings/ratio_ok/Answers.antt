use Rattle.std.proofs.Common.{refl}
use lib.Ieee.{round, units, odd, size, span, climb, of_bits, of_fields}
use Rattle.groups.proofs.questions.Settings.ratio_ok.Goals as goal

pub returns : goal.returns
unfolding round units odd size span climb of_bits of_fields
returns c = refl
