use Rattle.std.proofs.Common.{refl}
use Rattle.cases.proofs.Worked.{worked_cases}
use Rattle.cases.proofs.worked_cases_hold.Goals as goal

pub returns : goal.returns
returns g c = (refl, worked_cases g.A.GroupsAccumulator.aggregation g.G.GroupValues.admitted)
