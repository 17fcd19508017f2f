-- What a batch with rows changes: nothing if its last run goes on with the one counted before, and else that run is counted.
use Rattle.std.proofs.Common.{rules}
use Rattle.order.proofs.Counted.{counted_last}
use Rattle.order.proofs.partial.GroupOrderingPartial.new_groups.Goals as goal

pub returns-then-not-goes_on : goal.returns-then-not-goes_on
returns-then-not-goes_on c total =
    let counted = counted_last c.args.self.now c.args.keys.now c.args.places.now total c.in-Some.run' c.in-Some.ensures in
    search rules

pub returns-else-not-goes_on : goal.returns-else-not-goes_on
returns-else-not-goes_on c total =
    let counted = counted_last c.args.self.now c.args.keys.now c.args.places.now total c.in-Some.run' c.in-Some.ensures in
    search rules
