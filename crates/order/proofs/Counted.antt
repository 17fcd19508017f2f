-- The last run of a batch with rows is counted, unless it goes on with the run counted before.
use Rattle.std.proofs.Common.{◌≡◌, ℕ, cond, List, [], ◌∷◌, get_or, Some, sym, refl, ap, ◌∙◌, arith, vec_items}
use Rattle.cells.specs.Rows.{CellOf}
use Rattle.order.specs.declared.partial.GroupOrderingPartial.{GroupOrderingPartial}
use Rattle.order.specs.declared.partial.Run.{Run}
use Rattle.order.specs.declared.progress.Progress.{Progress}
use Rattle.order.specs.declared.progress.Progress.TheVariants.{Start, InProgress, Complete}
use Rattle.order.specs.Runs.{sort_keys, LastRun}
use Rattle.order.specs.Orders.{Order, partially, opened, run_opened, run_counted}
use Rattle.order.specs.Tracked.{progress_order, partial_order}
use Rattle.order.proofs.LastRuns.{last_run-at}

run_opened-at : (o : Order) (ks : List (List CellOf)) (places : List ℕ) (at : ℕ) → LastRun ks at → run_opened o ks places ≡ run_counted o at (get_or ks at []) places
run_opened-at o [] places at run = absurd (omega (arith, run.inside))
run_opened-at o (k ∷ ks) places at run = ap (λ (n : ℕ). run_counted o n (get_or (k ∷ ks) n []) places) (sym (last_run-at (k ∷ ks) at run))

-- `opened` computes at each state, and the run may be found in any way
module _ (o : GroupOrderingPartial) (keys : List (List CellOf)) (places : List ℕ) (total : ℕ) (run : Run)
    (last : LastRun (sort_keys (vec_items o.order_indices) keys) run.start × (run.sort_key ≡ get_or (sort_keys (vec_items o.order_indices) keys) run.start [])) where
  abbrev state : Progress (List CellOf) → Order
  state p = progress_order (partially (vec_items o.order_indices)) Some p

  abbrev counted : Order → Order
  counted s = run_counted s run.start run.sort_key places

  opened_last : (s : Order) → run_opened s (sort_keys (vec_items o.order_indices) keys) places ≡ counted s
  opened_last s =
      run_opened-at s (sort_keys (vec_items o.order_indices) keys) places run.start last.0 ∙ ap (λ (k : List CellOf). run_counted s run.start k places) (sym last.1)

  counted_in : (p : Progress (List CellOf)) → opened (state p) keys places total ≡ cond (state p).ended (state p) (counted (state p))
  counted_in Start = opened_last (state Start)
  counted_in (InProgress p k) = opened_last (state (InProgress p k))
  counted_in Complete = refl

  pub counted_last : let s = partial_order o in opened s keys places total ≡ cond s.ended s (counted s)
  counted_last = counted_in o.progress
