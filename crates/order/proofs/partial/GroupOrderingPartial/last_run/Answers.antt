-- A search from the back stops before the last run.
use Rattle.std.proofs.Common.{rules}
use Rattle.order.proofs.LastRuns.{run_from_back}
use Rattle.order.proofs.partial.GroupOrderingPartial.last_run.Goals as goal

pub returns : goal.returns
returns c =
    run_from_back c.args.self.now.order_indices.items c.args.keys.now c.map_or.result c.sort_key-sort_key.result (search rules) (search rules) (search rules)
    (λ i p l. search rules) (λ p. search rules)
