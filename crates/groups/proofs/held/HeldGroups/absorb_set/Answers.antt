use Rattle.std.proofs.Common.{ℕ, List, vec_items, ap, ◌∙◌}
use Rattle.cells.specs.Rows.{CellOf}
use Rattle.cells.specs.Views.{view_rows}
use Rattle.order.specs.declared.group_ordering.GroupOrdering.{GroupOrdering}
use Rattle.order.specs.Tracked.{order_of}
use Rattle.order.specs.Orders.{opened}
use Rattle.groups.specs.Plans.{setup_of}
use Rattle.groups.specs.Held.{held_of}
use Rattle.groups.proofs.Absorbing.{set_opens, set_opens_none, fed-through}
use Rattle.groups.proofs.held.HeldGroups.absorb_set.Goals as goal

pub returns-then-total_num_groups-starting_num_groups : goal.returns-then-total_num_groups-starting_num_groups
returns-then-total_num_groups-starting_num_groups g c =
    let u = setup_of g.A.GroupsAccumulator.aggregation g.G.GroupValues.admitted c.args.plan.now in
    let before = held_of c.args.self.now in
    let rows = view_rows c.args.batch.now in
    let fed-is = fed-through g.A.GroupsAccumulator.states g.A.GroupsAccumulator.aggregation rows c.len-total_num_groups.result c.update_batch.ensures c.deref.ensures.value c.deref-2.ensures.value c.intern_rows.ensures.accumulator in
    set_opens u before rows c.args.set _ _ _ c.len-starting_num_groups.result c.len-total_num_groups.result _ _ c.intern_rows.ensures.table c.intern_rows.ensures.keys c.intern_rows.ensures.places c.len-starting_num_groups.ensures c.len-total_num_groups.ensures fed-is c.if-total_num_groups-starting_num_groups.true
    (c.new_groups.ensures
    ∙ ap (λ (o : GroupOrdering). opened (order_of o) c.deref-then-total_num_groups-starting_num_groups.result.now c.deref-then-total_num_groups-starting_num_groups-2.result.now c.len-total_num_groups.result) c.intern_rows.ensures.ordering
    ∙ ap (λ (ks : List (List CellOf)). opened (order_of c.args.self.now.group_ordering) ks c.deref-then-total_num_groups-starting_num_groups-2.result.now c.len-total_num_groups.result) c.deref-then-total_num_groups-starting_num_groups.ensures.value
    ∙ ap (λ (ps : List ℕ). opened (order_of c.args.self.now.group_ordering) (vec_items c.intern_rows.new.self.current_group_keys) ps c.len-total_num_groups.result) c.deref-then-total_num_groups-starting_num_groups-2.ensures.value)

pub returns-else-total_num_groups-starting_num_groups : goal.returns-else-total_num_groups-starting_num_groups
returns-else-total_num_groups-starting_num_groups g c =
    let u = setup_of g.A.GroupsAccumulator.aggregation g.G.GroupValues.admitted c.args.plan.now in
    let before = held_of c.args.self.now in
    let rows = view_rows c.args.batch.now in
    let fed-is = fed-through g.A.GroupsAccumulator.states g.A.GroupsAccumulator.aggregation rows c.len-total_num_groups.result c.update_batch.ensures c.deref.ensures.value c.deref-2.ensures.value c.intern_rows.ensures.accumulator in
    set_opens_none u before rows c.args.set _ _ _ c.len-starting_num_groups.result c.len-total_num_groups.result _ _ c.intern_rows.ensures.table c.intern_rows.ensures.keys c.intern_rows.ensures.places c.len-starting_num_groups.ensures c.len-total_num_groups.ensures fed-is c.if-total_num_groups-starting_num_groups.false (ap order_of c.intern_rows.ensures.ordering)
