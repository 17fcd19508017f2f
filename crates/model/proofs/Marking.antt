-- A batch is absorbed: the order's mark then parts the groups of finished sort keys from the others.
use Rattle.std.proofs.Common.{◌≡◌, ℕ, zero, suc, ◌+◌, ◌-◌, ◌<◌, ◌≤◌, true, ltb, List, [], ◌∷◌, ◌++◌, map, length, get_or, Some, Option, sym, refl, ap, ◌∙◌, subst, inl, inr, append-nil, arith}
use Rattle.std.specs.List.{AllByRecursion as All}
use Rattle.std.proofs.lemmas.List.{length-append}
use Rattle.std.proofs.lemmas.Bool.{cond-true, cond-false, cond_both, lt-ltb, ltb-true, ltb-false}
use Rattle.order.specs.Orders.{Mode, linear, sorted, partially, Order, opened_in, opened, run_opened}
use Rattle.order.specs.Runs.{last_run}
use Rattle.model.specs.Setups.{Setup, num_sets, row_key}
use Rattle.model.specs.Machine.{Groups, Model, reordered, absorbed_set, absorbed_from, absorbed, placed_all, interned_all}
use Rattle.model.specs.Law.{sorted_by, Unbroken}
use Rattle.model.proofs.Gathering.{Cells, In, Once, gathered, gathered_append, gathered_once, places_of, interned-all}
use Rattle.model.proofs.SortRuns.{Ends, Split, Way, goes_on, goes_on_all, ran}
use Rattle.model.proofs.Batches.{batch_keys, Fits, absorbed-gathers}
use Rattle.model.proofs.Orderings.{ordering, Counts, Marked, Unmarked, Whole, Running, Grown, OrderOf}

once_right : {X : Type 0} (xs ys : List X) → Once (xs ++ ys) → Once ys
once_right [] ys o = o
once_right (x ∷ xs) ys o = once_right xs ys o.1

alike_once : (c : Option Cells) (xs : List Cells) → All (λ k. Some k ≡ c) xs → Once xs → length xs ≤ 1
alike_once c [] a o = omega arith
alike_once c (x ∷ []) a o = omega arith
alike_once c (x ∷ y ∷ xs) a o =
    absurd (o.0.0 (let p : Some x ≡ c = a.0 in let q : Some y ≡ c = a.1.0 in let e : y ≡ x = cc in e))

in_some : {X : Type 0} (x : X) (xs : List X) → In x xs → 0 < length xs
in_some x [] i = absurd i
in_some x (y ∷ xs) i = omega arith

module _ {S : Type 0} (u : Setup S) where
  -- ---- the mark

  -- what a batch makes of an order that has nothing marked
  abbrev after : Mode → Option Cells → List Cells → List Cells → Order
  after mode x keys ks = reordered (ordering mode 0 x) (length keys) ks (places_of keys ks) (length (gathered keys ks))

  -- the last key alone has the sort key of the last row
  sorted-mark : (emitted keys log : List Cells) (c : Option Cells) (ks : List Cells) (x c₁ : Option Cells) (before₁ current₁ : List Cells)
      → Split (sorted_by u sorted) emitted (gathered keys ks) (log ++ ks) c₁ before₁ current₁
      → Way (sorted_by u sorted) keys c [] ks c₁ before₁ → after sorted x keys ks ≡ ordering sorted (length before₁) x
  sorted-mark emitted keys log c ks x c₁ before₁ current₁ s way =
      cond_both (ltb (length keys) (length (gathered keys ks))) (ordering sorted (length (gathered keys ks) - 1) x)
      (ordering sorted 0 x) (λ o. o ≡ ordering sorted (length before₁) x)
      (λ e. ap (λ (n : ℕ). ordering sorted n x) (some_opened (ltb-true (length keys) (length (gathered keys ks)) e) s.ends))
      (λ e. ap (λ (n : ℕ). ordering sorted n x) (none_opened (ltb-false (length keys) (length (gathered keys ks)) e) way))
    where
      parts : length (gathered keys ks) ≡ length before₁ + length current₁
      parts = ap length s.parts ∙ length-append before₁ current₁

      one : length current₁ ≤ 1
      one =
          alike_once c₁ current₁ s.same
          (once_right before₁ current₁ (subst Once s.parts
          (once_right emitted (gathered keys ks) (subst Once (sym s.logged) (gathered_once [] (log ++ ks) tt)))))

      some_opened : length keys < length (gathered keys ks) → Ends (sorted_by u sorted) (log ++ ks) c₁ current₁
          → length (gathered keys ks) - 1 ≡ length before₁
      some_opened l (inl (is, n)) =
          let empty : length (emitted ++ gathered keys ks) ≡ 0 =
          ap length s.logged ∙ ap (λ (ls : List Cells). length (gathered [] ls)) is in
          absurd (omega (arith, length-append emitted (gathered keys ks)))
      some_opened l (inr (front, last, is, at, i)) = omega (arith, parts, one, in_some last current₁ i)

      none_opened : length (gathered keys ks) ≤ length keys → Way (sorted_by u sorted) keys c [] ks c₁ before₁ → 0 ≡ length before₁
      none_opened l (inl (all, to, kept)) = sym (ap length kept)
      none_opened l (inr (some, more, place, key, other)) = absurd (omega (arith, more))

  stays : (mode : Mode) (x c c₁ : Option Cells) (before₁ : List Cells) → x ≡ c → c₁ ≡ c → before₁ ≡ []
      → ordering mode 0 x ≡ ordering mode (length before₁) c₁
  stays mode x c c₁ before₁ same to kept =
      ap (ordering mode 0) (same ∙ sym to) ∙ ap (λ (ls : List Cells). ordering mode (length ls) c₁) (sym kept)

  -- the last run's first row stands at the mark
  partial_mark : (keys : List Cells) (c : Option Cells) (ks : List Cells) (x : Option Cells) (positions : List ℕ)
      (c₁ : Option Cells) (before₁ : List Cells)
      → x ≡ c → Way (sorted_by u (partially positions)) keys c [] ks c₁ before₁
      → after (partially positions) x keys ks ≡ ordering (partially positions) (length before₁) c₁
  partial_mark keys c [] x positions c₁ before₁ same (inl (all, to, kept)) =
      let mode = partially positions in
      cond_both (ltb (length keys) (length keys)) (ordering mode 0 x) (ordering mode 0 x)
      (λ o. o ≡ ordering mode (length before₁) c₁) (λ _. stays (partially positions) x c c₁ before₁ same to kept)
      (λ _. stays (partially positions) x c c₁ before₁ same to kept)
  partial_mark keys c [] x positions c₁ before₁ same (inr (some, more, place, key, other)) = absurd (some tt)
  partial_mark keys c (k ∷ ks) x positions c₁ before₁ same (inl (all, to, kept)) =
      let mode = partially positions in
      let f = sorted_by u mode in
      let stay = stays mode x c c₁ before₁ same to kept in
      let on : goes_on f x (k ∷ ks) ≡ true = ap (λ (y : Option Cells). goes_on f y (k ∷ ks)) same ∙ goes_on_all f c k ks all in
      cond_both (ltb (length keys) (length (gathered keys (k ∷ ks))))
      (run_opened (ordering mode 0 x) (map f (k ∷ ks)) (places_of keys (k ∷ ks))) (ordering mode 0 x)
      (λ o. o ≡ ordering mode (length before₁) c₁)
      (λ _. cond-true (goes_on f x (k ∷ ks)) (ordering mode 0 x) _ on ∙ stay)
      (λ _. stay)
  partial_mark keys c (k ∷ ks) x positions c₁ before₁ same (inr (some, more, place, key, other)) =
      let mode = partially positions in
      let f = sorted_by u mode in
      let last = Some (get_or (map f (k ∷ ks)) (last_run (map f (k ∷ ks))) []) in
      cond-true (ltb (length keys) (length (gathered keys (k ∷ ks))))
      (run_opened (ordering mode 0 x) (map f (k ∷ ks)) (places_of keys (k ∷ ks))) (ordering mode 0 x)
      (lt-ltb (length keys) (length (gathered keys (k ∷ ks))) more)
      ∙ cond-false (goes_on f x (k ∷ ks)) (ordering mode 0 x) _ (ap (λ (y : Option Cells). goes_on f y (k ∷ ks)) same ∙ other)
      ∙ ap (λ (n : ℕ). ordering mode n last) place
      ∙ ap (ordering mode (length before₁)) key

  -- ---- the groups after one set

  -- the keys of some rows under the first set
  abbrev firsts : List Cells → List Cells
  firsts rows = map (row_key u.settings 0) rows

  module _ (emitted : List Cells) (g : Groups S) (log rows : List Cells) (in' : All (λ k. u.admitted k ≡ true) (firsts rows))
      (room : length g.keys + length (firsts rows) ≤ 512) where
    -- in a mode whose mark stands behind the finished groups
    mode_absorbs : (mode : Mode)
        → ((c x c₁ : Option Cells) (before₁ current₁ : List Cells) → Counts mode x c
        → Split (sorted_by u mode) emitted (gathered g.keys (firsts rows)) (log ++ firsts rows) c₁ before₁ current₁
        → Way (sorted_by u mode) g.keys c [] (firsts rows) c₁ before₁
        → (x₁ : Option Cells) × (after mode x g.keys (firsts rows) ≡ ordering mode (length before₁) x₁) × Counts mode x₁ c₁)
        → Unmarked u mode emitted g log → Unbroken u (map (sorted_by u mode) (log ++ firsts rows))
        → Marked u mode emitted (absorbed_set u g rows 0) (log ++ firsts rows)
    mode_absorbs mode marks (c, k) whole =
        let ks = firsts rows in
        let f = sorted_by u mode in
        let r = ran u f emitted g.keys log [] g.keys c ks k.split whole in
        let mark = marks c k.counted r.0 r.1 r.2 k.counts r.3 r.4 in
        let i = interned-all u.admitted g.keys ks in' room in
        let places = placed_all u.admitted g.keys ks in
        let held = interned_all u.admitted g.keys ks in (
          r.0,
          r.1,
          r.2,
          record {
            counted = mark.0;
            order =
                ap (λ (o : Order). reordered o (length g.keys) ks places (length held)) k.order
                ∙ ap (λ (ps : List ℕ). reordered (ordering mode 0 k.counted) (length g.keys) ks ps (length held)) i.1
                ∙ ap
                (λ (ls : List Cells). reordered (ordering mode 0 k.counted) (length g.keys) ks (places_of g.keys ks) (length ls)) i.0
                ∙ mark.1;
            counts = mark.2;
            split = subst (λ (ls : List Cells). Split f emitted ls (log ++ ks) r.0 r.1 r.2) (sym i.0) r.3;
          },
        )

    sorted-absorbs : Unmarked u sorted emitted g log → OrderOf u sorted (log ++ firsts rows)
        → Marked u sorted emitted (absorbed_set u g rows 0) (log ++ firsts rows)
    sorted-absorbs =
        mode_absorbs sorted
        (λ c x c₁ before₁ current₁ _ s way. (x, sorted-mark emitted g.keys log c (firsts rows) x c₁ before₁ current₁ s way, tt))

    partial_absorbs : (positions : List ℕ) → Unmarked u (partially positions) emitted g log
        → OrderOf u (partially positions) (log ++ firsts rows)
        → Marked u (partially positions) emitted (absorbed_set u g rows 0) (log ++ firsts rows)
    partial_absorbs positions =
        mode_absorbs (partially positions)
        (λ c x c₁ before₁ current₁ same s way. (c₁, partial_mark g.keys c (firsts rows) x positions c₁ before₁ same way, refl))

  -- ---- all sets

  linear-kept : (g : Groups S) (rows : List Cells) (s n : ℕ) → g.order.mode ≡ linear
      → (absorbed_from u g rows s n).order.mode ≡ linear
  linear-kept g rows s zero e = e
  linear-kept g rows s (suc n) e = linear-kept (absorbed_set u g rows s) rows (s + 1) n (once g.order _ _ _ _ e)
    where
      once : (o : Order) (before : ℕ) (keys : List Cells) (places : List ℕ) (all : ℕ) → o.mode ≡ linear
          → (reordered o before keys places all).mode ≡ linear
      once o before keys places all e =
          cond_both (ltb before all) (opened o keys places all) o (λ p. p.mode ≡ linear)
          (λ _. cond_both o.ended o _ (λ p. p.mode ≡ linear) (λ _. e)
          (λ _. subst (λ (m : Mode). (opened_in m o keys places all).mode ≡ linear) (sym e) e))
          (λ _. e)

  module _ (emitted log : List Cells) (m : Model S) (rows : List Cells) (fit : Fits u m rows) where
    abbrev batch : List Cells
    batch = batch_keys u rows 0 (num_sets u.settings)

    linear-absorbs : Whole u emitted m.held log → Whole u emitted (absorbed u m.held rows) (log ++ batch)
    linear-absorbs (mode, none_out, is) = (
      linear-kept m.held rows 0 (num_sets u.settings) mode,
      none_out,
      absorbed-gathers u m rows fit ∙ ap (λ (ks : List Cells). gathered ks batch) is ∙ sym (gathered_append [] log batch),
    )

    -- what holds for the one set holds of all
    one_set_lem : (P : Groups S → List Cells → Type 0) → num_sets u.settings ≡ 1
        → (All (λ k. u.admitted k ≡ true) (firsts rows) → length m.held.keys + length (firsts rows) ≤ 512
        → P (absorbed_set u m.held rows 0) (log ++ firsts rows))
        → P (absorbed u m.held rows) (log ++ batch)
    one_set_lem P one h =
        let ks = firsts rows in
        let is : batch ≡ ks = ap (batch_keys u rows 0) one ∙ append-nil ks in
        let groups_are : absorbed u m.held rows ≡ absorbed_set u m.held rows 0 = ap (absorbed_from u m.held rows 0) one in
        let there =
        h (subst (λ (ls : List Cells). All (λ k. u.admitted k ≡ true) ls) is fit.admits)
        (subst (λ (ls : List Cells). length m.held.keys + length ls ≤ 512) is fit.room) in
        subst (λ (x : Groups S). P x (log ++ batch)) (sym groups_are)
        (subst (λ (ls : List Cells). P (absorbed_set u m.held rows 0) (log ++ ls)) (sym is) there)

    -- in every mode
    pub absorbs : (mode : Mode) → ((mode ≡ linear → ⊥) → num_sets u.settings ≡ 1) → OrderOf u mode (log ++ batch)
        → Running u mode emitted m.held log → Grown u mode emitted (absorbed u m.held rows) (log ++ batch)
    absorbs linear one ordered r = linear-absorbs r
    absorbs sorted one ordered r =
        one_set_lem (λ g ls. OrderOf u sorted ls → Marked u sorted emitted g ls) (one (λ e. let z : ◌≡◌ {A = ℕ} 0 1 = cc in omega arith))
        (λ in' room. sorted-absorbs emitted m.held log rows in' room r) ordered
    absorbs (partially positions) one ordered r =
        one_set_lem (λ g ls. OrderOf u (partially positions) ls → Marked u (partially positions) emitted g ls) (one (λ e. let z : ◌≡◌ {A = ℕ} 0 1 = cc in omega arith))
        (λ in' room. partial_absorbs emitted m.held log rows in' room positions r) ordered
