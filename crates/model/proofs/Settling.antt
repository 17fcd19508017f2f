-- After a batch is absorbed, Single mode emits the groups of finished sort keys, or none.
use Rattle.std.proofs.Common.{◌≡◌, ℕ, ◌-◌, Bool, true, false, cond, ◌&&◌, eqb, ltb, List, [], ◌++◌, length, take, drop, Some, None, Option, sym, refl, ap, ◌∙◌, subst, true≢false, append_assoc, append-nil, arith}
use Rattle.std.specs.List.{AllByRecursion as All}
use Rattle.std.proofs.lemmas.List.{take_at, drop_at, nil_from_length}
use Rattle.std.proofs.lemmas.Bool.{cond-false, cond_both, and_left, eqb-true}
use Rattle.cells.specs.declared.emit_to.EmitTo.{EmitTo}
use Rattle.cells.specs.declared.emit_to.EmitTo.TheVariants.{First}
use Rattle.order.specs.Orders.{Mode, linear, sorted, partially, Order, emit_to, emit_to_in, marked, removed_in, removed}
use Rattle.model.specs.Setups.{Setup}
use Rattle.model.specs.Machine.{Groups, grouping, waiting, Model, count, emission, shed, emits}
use Rattle.model.specs.Steps.{Outcome, no_memory, reserved, probed, prefixed, limited, settled}
use Rattle.model.specs.Law.{sorted_by}
use Rattle.model.proofs.Gathering.{Cells, all_gathered}
use Rattle.model.proofs.SortRuns.{Split}
use Rattle.model.proofs.Batches.{Wide}
use Rattle.model.proofs.Orderings.{ordering, Known, Marked, Unmarked, Running, Grown, Complete, complete}
use Rattle.model.proofs.Emitting.{all_right, out_keys, Kept, Grand, waiting-keys, emission-keys, ended_kept}

module _ {S : Type 0} (u : Setup S) (single : u.settings.partial ≡ false) (grand : Grand u) (out log : List Cells)
    (wide : All (Wide u) log) where
  abbrev out_now : List Cells
  out_now = out_keys u out grouping

  -- where memory is refused nothing is emitted
  reserved-kept : (m : Model S) (g h : Bool) → Kept u out log m → Kept u out log (reserved u m g h).model
  reserved-kept m true h k = k
  reserved-kept m false h k =
      subst (λ (o : Outcome S). Kept u out log o.model)
      (sym (cond-false (u.settings.partial && ltb 1 (count m)) _ (no_memory u m) (and_left u.settings.partial (ltb 1 (count m)) single))) k

  -- no prefix
  unprefixed_kept : (m : Model S) (rows : ℕ) (g h : Bool) → Kept u out log m → Kept u out log (prefixed u None m rows g h).model
  unprefixed_kept m rows g h k =
      subst (λ (o : Outcome S). Kept u out log o.model)
      (sym (cond-false u.settings.partial (probed u m rows g h) (reserved u m g h) single)) (reserved-kept m g h k)

  module _ (m : Model S) (at : m.phase ≡ grouping) (going : m.ended ≡ false) where
    kept_running : Running u u.settings.order out_now m.held log → Kept u out log m
    kept_running r = record {
      wide = wide;
      live = λ _. going;
      running = λ _. subst (λ p. Running u u.settings.order (out_keys u out p) m.held log) (sym at) r;
      over = λ e. absurd (true≢false (sym e ∙ going));
    }

    held_wide : Complete u out_now m.held.keys log → All (Wide u) m.held.keys
    held_wide c =
        all_right (Wide u) out_now m.held.keys (subst (All (Wide u)) (sym c.logged) (all_gathered (Wide u) [] log tt wide))

    -- the groups before the mark go to wait
    shed-known : (mode : Mode) (c : Option Cells) (before current : List Cells)
        → ((o : Order) → removed_in mode o (length before) ≡ marked o (o.mark - length before) o.counted)
        → All (Wide u) m.held.keys → Known u mode out_now m.held log c before current
        → Known u mode (out_keys u out (waiting (emission u (First (length before)) m.held) false))
        (shed (First (length before)) m.held) log c [] (shed (First (length before)) m.held).keys
    shed-known mode c before current removes w k =
        let n = length before in
        let s = k.split in
        let taken : take n m.held.keys ≡ before = ap (take n) s.parts ∙ take_at before current n refl in
        let kept : drop n m.held.keys ≡ current = ap (drop n) s.parts ∙ drop_at before current n refl in
        let out_is : out_keys u out (waiting (emission u (First n) m.held) false) ≡ out_now ++ before =
        waiting-keys u out (emission u (First n) m.held) false ∙ ap (λ (ks : List Cells). out_now ++ ks)
        (emission-keys u (First n) m.held w ∙ taken) in
        let gone : n - n ≡ 0 = omega arith in
        let moved : Split (sorted_by u mode) (out_now ++ before) current log c [] current = record {
          parts = refl;
          logged = append_assoc out_now before current ∙ ap (λ (ks : List Cells). out_now ++ ks) (sym s.parts) ∙ s.logged;
          same = s.same;
          others =
              subst (λ (ks : List Cells). All (λ x. Some (sorted_by u mode x) ≡ c → ⊥) ks) (sym (append-nil (out_now ++ before))) s.others;
          ends = s.ends;
        } in
        record {
          counted = k.counted;
          order =
              ap (λ (o : Order). removed o n) k.order
              ∙ removes (ordering mode n k.counted)
              ∙ ap (λ (j : ℕ). ordering mode j k.counted) gone;
          counts = k.counts;
          split =
              subst (λ (ks : List Cells). Split (sorted_by u mode) ks (drop n m.held.keys) log c [] (drop n m.held.keys))
              (sym out_is)
              (subst (λ (ks : List Cells). Split (sorted_by u mode) (out_now ++ before) ks log c [] ks) (sym kept) moved);
        }

    unmarked : (mode : Mode) (c : Option Cells) (before current : List Cells) → before ≡ []
        → Known u mode out_now m.held log c before current
        → Known u mode out_now m.held log c [] m.held.keys
    unmarked mode c before current e k =
        let none_before : Known u mode out_now m.held log c [] current =
        subst (λ (ks : List Cells). Known u mode out_now m.held log c ks current) e k in
        subst (Known u mode out_now m.held log c []) (sym none_before.split.parts) none_before

    emits_kept : (n : ℕ)
        → Running u u.settings.order (out_keys u out (waiting (emission u (First n) m.held) false)) (shed (First n) m.held) log
        → Kept u out log (emits u (First n) m)
    emits_kept n r = record {
      wide = wide;
      live = λ e. absurd (let z : ◌≡◌ {A = ℕ} 0 1 = cc in omega arith);
      running = λ _. r;
      over = λ e. absurd (true≢false (sym e ∙ going));
    }

    -- an order has a prefix, or not
    marked-kept : (n rows : ℕ) (g h : Bool) → (n ≡ 0 → Kept u out log m) → Kept u out log (emits u (First n) m)
        → Kept u out log (prefixed u (cond (eqb n 0) None (Some (First n))) m rows g h).model
    marked-kept n rows g h still moved =
        cond_both (eqb n 0) None (Some (First n)) (λ to. Kept u out log (prefixed u to m rows g h).model)
        (λ e. unprefixed_kept m rows g h (still (eqb-true n 0 e)))
        (λ _. moved)

    -- an order that runs by sort keys
    known_kept : (mode : Mode) (rows : ℕ) (g h : Bool) → u.settings.order ≡ mode
        → ((emitted : List Cells) (x : Groups S) → Unmarked u mode emitted x log → Running u mode emitted x log)
        → ((n : ℕ) (x : Option Cells) → emit_to (ordering mode n x) ≡ cond (eqb n 0) None (Some (First n)))
        → ((n : ℕ) (o : Order) → removed_in mode o n ≡ marked o (o.mark - n) o.counted)
        → Marked u mode out_now m.held log → All (Wide u) m.held.keys
        → Kept u out log (prefixed u (emit_to m.held.order) m rows g h).model
    known_kept mode rows g h is runs prefix removes (c, before, current, k) w =
        let n = length before in
        let between : (emitted : List Cells) (x : Groups S) → Unmarked u mode emitted x log → Running u u.settings.order emitted x log =
        λ emitted x r. subst (λ (o : Mode). Running u o emitted x log) (sym is) (runs emitted x r) in
        subst (λ (to : Option EmitTo). Kept u out log (prefixed u to m rows g h).model)
        (sym (ap (λ (o : Order). emit_to o) k.order ∙ prefix n k.counted))
        (marked-kept n rows g h
        (λ e. kept_running (between out_now m.held (c, unmarked mode c before current (nil_from_length before e) k)))
        (emits_kept n (between (out_keys u out (waiting (emission u (First n) m.held) false)) (shed (First n) m.held)
        (c, shed-known mode c before current (removes n) w k))))

    prefixed-kept : (mode : Mode) (rows : ℕ) (g h : Bool) → u.settings.order ≡ mode → Grown u mode out_now m.held log
        → All (Wide u) m.held.keys → Kept u out log (prefixed u (emit_to m.held.order) m rows g h).model
    prefixed-kept linear rows g h is (lin, none_out, all) w =
        subst
        (λ (mode : Mode). Kept u out log (prefixed u (emit_to_in mode m.held.order.mark m.held.order.ended) m rows g h).model) (sym lin)
        (unprefixed_kept m rows g h (kept_running (subst (λ (mode : Mode). Running u mode out_now m.held log) (sym is) (lin, none_out, all))))
    prefixed-kept sorted rows g h is r w = known_kept sorted rows g h is (λ _ _ x. x) (λ _ _. refl) (λ _ _. refl) r w
    prefixed-kept (partially positions) rows g h is r w =
        known_kept (partially positions) rows g h is (λ _ _ x. x) (λ _ _. refl) (λ _ _. refl) r w

    pub settled-kept : (rows : ℕ) (g h : Bool) → Grown u u.settings.order out_now m.held log
        → Kept u out log (settled u m rows g h).model
    settled-kept rows g h grown =
        let c = complete u u.settings.order out_now m.held log grown in
        cond_both (limited u.settings.soft_limit (count m)) _ _ (λ (o : Outcome S). Kept u out log o.model)
        (λ _. ended_kept u grand out log wide m g c)
        (λ _. prefixed-kept u.settings.order rows g h refl grown (held_wide c))
