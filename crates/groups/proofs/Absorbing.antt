-- What the steps of a batch leave is what the batch is defined to leave.
use Rattle.std.proofs.Common.{◌≡◌, ℕ, suc, ◌+◌, ◌-◌, ◌<◌, ◌≤◌, Bool, cond, List, map, length, sym, ap, ◌∙◌, arith}
use Rattle.std.proofs.lemmas.Bool.{lt-ltb, le-ltb}
use Rattle.cells.specs.Rows.{CellOf}
use Rattle.aggregates.specs.declared.aggregate_expr.AggregateExpr.{AggregateExpr}
use Rattle.accumulators.specs.Aggregations.{Aggregation}
use Rattle.accumulators.specs.Groups.{updated}
use Rattle.order.specs.Orders.{Order, opened}
use Rattle.model.specs.Setups.{Setup, row_key}
use Rattle.model.specs.Machine.{Groups, groups, interned_all, placed_all, reordered, absorbed_set, absorbed_from}

pub groups_same : {S : Type 0} {k k' : List (List CellOf)} {s s' : List S} {o o' : Order} → k ≡ k' → s ≡ s' → o ≡ o' → groups k s o ≡ groups k' s' o'
groups_same {S} {k} {k'} {s} {s'} {o} {o'} p q r =
    ap (λ (x : List (List CellOf)). groups x s o) p ∙ ap (λ (x : List S). groups k' x o) q ∙ ap (λ (x : Order). groups k' s' x) r

module _ {S : Type 0} (u : Setup S) (g : Groups S) (rows : List (List CellOf)) (s : ℕ) where
  abbrev ks : List (List CellOf)
  ks = map (row_key u.settings s) rows

  -- one set: the table, the states and the order after it
  module _ (table kept : List (List CellOf)) (places : List ℕ) (before total : ℕ) (states : List S) (order : Order)
      (interned-is : table ≡ interned_all u.admitted g.keys ks) (kept-is : kept ≡ ks) (placed-is : places ≡ placed_all u.admitted g.keys ks)
      (had : before ≡ length g.keys) (has : total ≡ length table)
      (fed-is : states ≡ updated u.aggregation u.settings.exprs rows places total g.states) where
    all : total ≡ length (interned_all u.admitted g.keys ks)
    all = has ∙ ap length interned-is

    states_are : states ≡ updated u.aggregation u.settings.exprs rows (placed_all u.admitted g.keys ks) (length (interned_all u.admitted g.keys ks)) g.states
    states_are =
        fed-is
        ∙ ap (λ (ps : List ℕ). updated u.aggregation u.settings.exprs rows ps total g.states) placed-is
        ∙ ap (λ (n : ℕ). updated u.aggregation u.settings.exprs rows (placed_all u.admitted g.keys ks) n g.states) all

    abbrev ordered : ℕ → ℕ → Order
    ordered b t = reordered g.order b ks (placed_all u.admitted g.keys ks) t

    pub set_opens : before < total → order ≡ opened g.order kept places total → groups table states order ≡ absorbed_set u g rows s
    set_opens l e =
        groups_same interned-is states_are
        (e
        ∙ ap (λ (k : List (List CellOf)). opened g.order k places total) kept-is
        ∙ ap (λ (p : List ℕ). opened g.order ks p total) placed-is
        ∙ sym (ap (λ (b : Bool). cond b (opened g.order ks (placed_all u.admitted g.keys ks) total) g.order) (lt-ltb before total l))
        ∙ ap (λ (b : ℕ). ordered b total) had
        ∙ ap (λ (t : ℕ). ordered (length g.keys) t) all)

    pub set_opens_none : total ≤ before → order ≡ g.order → groups table states order ≡ absorbed_set u g rows s
    set_opens_none l e =
        groups_same interned-is states_are
        (e
        ∙ sym (ap (λ (b : Bool). cond b (opened g.order ks (placed_all u.admitted g.keys ks) total) g.order) (le-ltb before total l))
        ∙ ap (λ (b : ℕ). ordered b total) had
        ∙ ap (λ (t : ℕ). ordered (length g.keys) t) all)

-- one set more of those that are left
pub set_more : {S : Type 0} (u : Setup S) (g g' : Groups S) (rows : List (List CellOf)) (s n : ℕ) → s < n → g' ≡ absorbed_set u g rows s
    → absorbed_from u g' rows (s + 1) (n - (s + 1)) ≡ absorbed_from u g rows s (n - s)
set_more {S} u g g' rows s n l e =
    let more : n - s ≡ suc (n - (s + 1)) = omega arith in
    ap (λ (x : Groups S). absorbed_from u x rows (s + 1) (n - (s + 1))) e
    ∙ sym (ap (λ (k : ℕ). absorbed_from u g rows s k) more)

pub sets_all : {S : Type 0} (u : Setup S) (g : Groups S) (rows : List (List CellOf)) (s n : ℕ) → n ≤ s → absorbed_from u g rows s (n - s) ≡ g
sets_all u g rows s n l =
    let none : n - s ≡ 0 = omega arith in
    ap (λ (k : ℕ). absorbed_from u g rows s k) none

-- the accumulator was fed what the plan names and the batch's places are
pub fed-through : {A S : Type 0} (states : A → List S) (a : Aggregation S) (rows : List (List CellOf)) {fed-states : List S} {ex ex' : List AggregateExpr} {ps ps' : List ℕ} {acc acc' : A} (t : ℕ)
    → fed-states ≡ updated a ex rows ps t (states acc) → ex ≡ ex' → ps ≡ ps' → acc ≡ acc' → fed-states ≡ updated a ex' rows ps' t (states acc')
fed-through {A} states a rows {fed-states} {ex} {ex'} {ps} {ps'} {acc} {acc'} t h p q r =
    h ∙ ap (λ (x : List AggregateExpr). updated a x rows ps t (states acc)) p
    ∙ ap (λ (x : List ℕ). updated a ex' rows x t (states acc)) q
    ∙ ap (λ (x : A). updated a ex' rows ps' t (states x)) r
