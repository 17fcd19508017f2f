-- What the order knows of the held groups between calls, and before the finished ones are emitted.
use Rattle.std.proofs.Common.{◌≡◌, ℕ, true, false, List, [], ◌∷◌, ◌++◌, map, length, Option, sym, refl, ap, ◌∙◌, inl, inr, true≢false}
use Rattle.order.specs.Orders.{Mode, linear, sorted, partially, Order}
use Rattle.model.specs.Setups.{Setup}
use Rattle.model.specs.Machine.{Groups, none}
use Rattle.model.specs.Law.{sorted_by, Unbroken}
use Rattle.model.proofs.Gathering.{Cells, In, in_right, gathered, gathered_has}
use Rattle.model.proofs.SortRuns.{Ends, Split}

abbrev pub ordering : Mode → ℕ → Option Cells → Order
ordering m n x = record { mode = m; mark = n; counted = x; ended = false }

-- only a partial order counts runs
abbrev pub Counts : Mode → Option Cells → Option Cells → Type 0
Counts linear x c = Unit {0}
Counts sorted x c = Unit {0}
Counts (partially positions) x c = x ≡ c

module _ {S : Type 0} (u : Setup S) where
  -- the groups before the mark have finished sort keys, and the others have the sort key c
  pub record Known (mode : Mode) (emitted : List Cells) (g : Groups S) (log : List Cells) (c : Option Cells)
      (before current : List Cells) : Type 0 where
    pub counted : Option Cells
    pub order : g.order ≡ ordering mode (length before) counted
    pub counts : Counts mode counted c
    pub split : Split (sorted_by u mode) emitted g.keys log c before current

  abbrev pub Marked : Mode → List Cells → Groups S → List Cells → Type 0
  Marked mode emitted g log =
      (c : Option Cells) × (before : List Cells) × (current : List Cells) × Known mode emitted g log c before current

  abbrev pub Unmarked : Mode → List Cells → Groups S → List Cells → Type 0
  Unmarked mode emitted g log = (c : Option Cells) × Known mode emitted g log c [] g.keys

  -- without an order nothing is emitted before the end
  abbrev pub Whole : List Cells → Groups S → List Cells → Type 0
  Whole emitted g log = (g.order.mode ≡ linear) × (emitted ≡ []) × (g.keys ≡ gathered [] log)

  -- between calls
  abbrev pub Running : Mode → List Cells → Groups S → List Cells → Type 0
  Running linear emitted g log = Whole emitted g log
  Running sorted emitted g log = Unmarked sorted emitted g log
  Running (partially positions) emitted g log = Unmarked (partially positions) emitted g log

  -- after a batch is absorbed
  abbrev pub Grown : Mode → List Cells → Groups S → List Cells → Type 0
  Grown linear emitted g log = Whole emitted g log
  Grown sorted emitted g log = Marked sorted emitted g log
  Grown (partially positions) emitted g log = Marked (partially positions) emitted g log

  pub grown-running : (mode : Mode) (emitted : List Cells) (g : Groups S) (log : List Cells) → Running mode emitted g log
      → Grown mode emitted g log
  grown-running linear emitted g log r = r
  grown-running sorted emitted g log r = (r.0, [], g.keys, r.1)
  grown-running (partially positions) emitted g log r = (r.0, [], g.keys, r.1)

  -- ---- all keys are there

  -- the emitted and the held keys are those of the log, and some are held if there are any
  pub record Complete (emitted held log : List Cells) : Type 0 where
    pub logged : emitted ++ held ≡ gathered [] log
    pub some : none held ≡ true → log ≡ []

  some_held : (x : Cells) (xs : List Cells) → In x xs → none xs ≡ true → ⊥
  some_held x [] i e = i
  some_held x (y ∷ xs) i e = true≢false (sym e)

  split_some : (f : Cells → Cells) (emitted held log : List Cells) (c : Option Cells) (before current : List Cells)
      → Split f emitted held log c before current → none held ≡ true → log ≡ []
  split_some f emitted held log c before current s e = go s.ends
    where
      go : Ends f log c current → log ≡ []
      go (inl (is, n)) = is
      go (inr (front, last, is, at, i)) =
          absurd (some_held last (before ++ current) (in_right last before current i) (ap none (sym s.parts) ∙ e))

  whole_some : (held log : List Cells) → held ≡ gathered [] log → none held ≡ true → log ≡ []
  whole_some held [] is e = refl
  whole_some held (k ∷ log) is e =
      absurd (some_held k (gathered [] (k ∷ log)) (gathered_has [] (k ∷ log) k (inl refl)) (ap none (sym is) ∙ e))

  marked-complete : (mode : Mode) (emitted : List Cells) (g : Groups S) (log : List Cells) → Marked mode emitted g log
      → Complete emitted g.keys log
  marked-complete mode emitted g log (c, before, current, k) =
      record { logged = k.split.logged; some = split_some (sorted_by u mode) emitted g.keys log c before current k.split }

  pub complete : (mode : Mode) (emitted : List Cells) (g : Groups S) (log : List Cells) → Grown mode emitted g log
      → Complete emitted g.keys log
  complete linear emitted g log (m, e, is) =
      record { logged = ap (λ (ks : List Cells). ks ++ g.keys) e ∙ is; some = whole_some g.keys log is }
  complete sorted emitted g log r = marked-complete sorted emitted g log r
  complete (partially positions) emitted g log r = marked-complete (partially positions) emitted g log r

  -- the log has the declared order
  abbrev pub OrderOf : Mode → List Cells → Type 0
  OrderOf linear log = Unit {0}
  OrderOf sorted log = Unbroken u (map (sorted_by u sorted) log)
  OrderOf (partially positions) log = Unbroken u (map (sorted_by u (partially positions)) log)
