-- The declared order never changes.
use Rattle.std.proofs.Common.{◌≡◌, ℕ, ◌&&◌, eqb, ltb, List, [], ◌∷◌, get_or, Some, refl}
use Rattle.std.proofs.lemmas.Bool.{cond_both}
use Rattle.cells.specs.Rows.{CellOf}
use Rattle.cells.specs.declared.emit_to.EmitTo.{EmitTo}
use Rattle.cells.specs.declared.emit_to.EmitTo.TheVariants.{All, First}
use Rattle.order.specs.Orders.{Mode, linear, sorted, partially, Order, marked, is_counted, run_opened, opened_in, opened, removed_in, done_in, done}
use Rattle.order.specs.Runs.{last_run, sort_keys}
use Rattle.model.specs.Machine.{reordered, removed_by}

mode_run_opened : (o : Order) (ks : List (List CellOf)) (places : List ℕ) → (run_opened o ks places).mode ≡ o.mode
mode_run_opened o [] places = refl
mode_run_opened o (k ∷ ks) places =
    let at : ℕ = last_run (k ∷ ks) in
    let key : List CellOf = get_or (k ∷ ks) at [] in
    cond_both (eqb at 0 && is_counted o.counted key) o (marked o (get_or places at 0) (Some key)) (λ x. x.mode ≡ o.mode) (λ _. refl) (λ _. refl)

mode_opened_in : (m : Mode) (o : Order) (ks : List (List CellOf)) (places : List ℕ) (n : ℕ) → (opened_in m o ks places n).mode ≡ o.mode
mode_opened_in linear o ks places n = refl
mode_opened_in sorted o ks places n = refl
mode_opened_in (partially positions) o ks places n = mode_run_opened o (sort_keys positions ks) places

pub mode_reordered : (o : Order) (before : ℕ) (ks : List (List CellOf)) (places : List ℕ) (n : ℕ) → (reordered o before ks places n).mode ≡ o.mode
mode_reordered o before ks places n =
    cond_both (ltb before n) (opened o ks places n) o (λ x. x.mode ≡ o.mode)
    (λ _. cond_both o.ended o (opened_in o.mode o ks places n) (λ x. x.mode ≡ o.mode) (λ _. refl) (λ _. mode_opened_in o.mode o ks places n))
    (λ _. refl)

mode_removed_in : (m : Mode) (o : Order) (n : ℕ) → (removed_in m o n).mode ≡ o.mode
mode_removed_in linear o n = refl
mode_removed_in sorted o n = refl
mode_removed_in (partially positions) o n = refl

pub mode_removed_by : (to : EmitTo) (o : Order) → (removed_by to o).mode ≡ o.mode
mode_removed_by All o = refl
mode_removed_by (First n) o =
    cond_both o.ended o (removed_in o.mode o n) (λ x. x.mode ≡ o.mode) (λ _. refl) (λ _. mode_removed_in o.mode o n)

mode_done_in : (m : Mode) (o : Order) → (done_in m o).mode ≡ o.mode
mode_done_in linear o = refl
mode_done_in sorted o = refl
mode_done_in (partially positions) o = refl

pub mode_done : (o : Order) → (done o).mode ≡ o.mode
mode_done o = mode_done_in o.mode o
