use Rattle.std.proofs.Common.{◌≡◌, ◌≤◌, drop, vec_items, vec_len}
use Rattle.cells.specs.Views.{view_rows}
use Rattle.accumulators.specs.Aggregations.{of_kind}
use Rattle.accumulators.specs.Groups.{fed_from}
use Rattle.accumulators.proofs.kind_groups_accumulator.KindGroupsAccumulatorGroupsAccumulator.update_batch.Given as goal

-- What is left of the places makes of the states so far what all of them make of the first ones.
abbrev pub invariant-loop-row : goal.invariant-loop-row
invariant-loop-row g l =
    let a = of_kind g.K.AggregateKind.kind in
    (fed_from a l.exprs (view_rows l.batch) l.total l.row (vec_items l.self.states) (drop l.row l.places)
    ≡ fed_from a l.exprs (view_rows l.batch) l.total 0 (vec_items l.initial.self.states) l.places)
    × (l.total ≤ vec_len l.self.states)
