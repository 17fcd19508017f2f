-- What the orderings of the code stand for. Assumes nothing.
use Rattle.std.specs.Prelude.{true, false, List, Some, None, Option, vec_items}
use Rattle.cells.specs.Rows.{CellOf}
use Rattle.order.specs.declared.full.GroupOrderingFull.{GroupOrderingFull}
use Rattle.order.specs.declared.partial.GroupOrderingPartial.{GroupOrderingPartial}
use Rattle.order.specs.declared.progress.Progress.{Progress}
use Rattle.order.specs.declared.progress.Progress.TheVariants.{Start, InProgress, Complete}
use Rattle.order.specs.declared.group_ordering.GroupOrdering.{GroupOrdering}
use Rattle.order.specs.declared.group_ordering.GroupOrdering.TheVariants as ordering
use Rattle.order.specs.declared.ordering.InputOrderMode.{InputOrderMode}
use Rattle.order.specs.declared.ordering.InputOrderMode.TheVariants.{Linear, PartiallySorted, Sorted}
use Rattle.order.specs.Orders.{Mode, linear, sorted, partially, Order, start}

-- what an input's progress tells of an order, where `counted` gives the cells of a key
abbrev pub progress_order : {K : Type 0} → Mode → (K → Option (List CellOf)) → Progress K → Order
progress_order m counted Start = start m
progress_order m counted (InProgress place key) = record { mode = m; mark = place; counted = counted key; ended = false }
progress_order m counted Complete = record { mode = m; mark = 0; counted = None; ended = true }

abbrev pub full_order : GroupOrderingFull → Order
full_order o = progress_order sorted (λ _. None) o.progress

abbrev pub partial_order : GroupOrderingPartial → Order
partial_order o = progress_order (partially (vec_items o.order_indices)) Some o.progress

abbrev pub order_of : GroupOrdering → Order
order_of ordering.None = start linear
order_of (ordering.Partial o) = partial_order o
order_of (ordering.Full o) = full_order o

abbrev pub mode_of : InputOrderMode → Mode
mode_of Linear = linear
mode_of (PartiallySorted positions) = partially (vec_items positions)
mode_of Sorted = sorted
