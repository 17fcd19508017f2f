-- A done stream in Single mode has handed out the rows of SQL's groups, each once.
use Rattle.std.proofs.Common.{◌≡◌, Bool, false, cond, List, [], ◌∷◌, ◌++◌, map, length, sym, refl, ap, ◌∙◌, subst, true≢false, append-nil, arith}
use Rattle.std.specs.List.Sorted.{IsPermutation}
use Rattle.std.specs.List.{AllByRecursion as All}
use Rattle.std.proofs.lemmas.List.Sorted.{IsPermutation-refl}
use Rattle.std.proofs.lemmas.Bool.{cond-true, cond-false, cond_both}
use Rattle.cells.specs.Same.{same_key}
use Rattle.cells.proofs.Same.{key_decides}
use Rattle.order.specs.Orders.{Mode, linear, sorted, partially}
use Rattle.model.specs.Setups.{Setup, num_sets, out_row}
use Rattle.model.specs.Machine.{Phase, grouping, waiting, bypassing, stopped, Model, beside, out_rows, none, grand_keys}
use Rattle.model.specs.Runs.{Reservation, Event, Leads, accepted_rows, handed_out, waiting_in, waits, Done}
use Rattle.model.specs.Sql.{total, group_rows}
use Rattle.model.specs.Law.{key_part, states_held, owns, TrueOrder, grand_totals, Sensible}
use Rattle.model.proofs.Traced.{Traced}
use Rattle.model.proofs.Gathering.{Cells, In, Lacks, Once, gathered, gathered_once, gathered_has, gathered_only}
use Rattle.model.proofs.Emitting.{out-keys}
use Rattle.model.proofs.Stepping.{accepted_keys}
use Rattle.model.proofs.Passed.{grand_apart}
use Rattle.model.proofs.SingleRuns.{logged, logged_in, logged_only, logged_some, logged_none, log_ordered, runs_kept}
use Rattle.model.proofs.Shuffles.{once_shuffled}
use Rattle.model.proofs.SqlKeys.{whole_row, apart_keys, apart_in, in_apart, apart_keys_once, group-rows, group_rows_none}

nothing-waits : (p : Phase) → waits p ≡ false → waiting_in p ≡ []
nothing-waits grouping e = refl
nothing-waits (waiting rows whole) e = absurd (true≢false e)
nothing-waits bypassing e = refl
nothing-waits stopped e = refl

module _ {S : Type 0} (u : Setup S) where
  -- ---- one state for each key

  states_lacking : (k : Cells) (ps : List (Cells × S)) → Lacks (map (λ p. p.0) ps) k → states_held u k ps ≡ []
  states_lacking k [] l = refl
  states_lacking k (p ∷ ps) l =
      cond_both (same_key p.0 k) _ _ (λ (ss : List S). ss ≡ []) (λ e. absurd (l.0 ((key_decides p.0 k).0 e)))
      (λ _. states_lacking k ps l.1)

  -- a key that stands once has its state alone
  states_once : (ps : List (Cells × S)) → Once (map (λ p. p.0) ps) → All (λ p. states_held u p.0 ps ≡ p.1 ∷ []) ps
  states_once [] o = tt
  states_once (p ∷ ps) o = (
    cond-true (same_key p.0 p.0) _ _ ((key_decides p.0 p.0).1 refl) ∙ ap (λ (ss : List S). p.1 ∷ ss)
        (states_lacking p.0 ps o.0),
    later ps o.0 (states_once ps o.1),
  )
    where
      later : (qs : List (Cells × S)) → Lacks (map (λ q. q.0) qs) p.0 → All (λ q. states_held u q.0 ps ≡ q.1 ∷ []) qs
          → All (λ q. states_held u q.0 (p ∷ ps) ≡ q.1 ∷ []) qs
      later [] l a = tt
      later (q ∷ qs) l a = (
        cond_both (same_key p.0 q.0) _ _ (λ (ss : List S). ss ≡ q.1 ∷ [])
            (λ e. absurd (l.0 (sym ((key_decides p.0 q.0).0 e)))) (λ _. a.0),
        later qs l.1 a.1,
      )

  module _ (sensible : Sensible u) (single : u.settings.partial ≡ false) (rows : List Cells) where
    -- each row handed out is the whole row of its key
    rows_whole : (all : List (Cells × S))
        → ((k : Cells) → total u.aggregation (states_held u k all) ≡ total u.aggregation (owns u k rows))
        → (ps : List (Cells × S)) → All (λ p. u.aggregation.sound p.1) ps → All (λ p. states_held u p.0 all ≡ p.1 ∷ []) ps
        → out_rows u ps ≡ map (whole_row u rows) (map (λ p. p.0) ps)
    rows_whole all joined [] sound alone = refl
    rows_whole all joined (p ∷ ps) sound alone =
        let a = u.aggregation in
        let is : p.1 ≡ total a (owns u p.0 rows) =
        sym (sensible.lawful.neutral_right p.1 sound.0) ∙ ap (total a) (sym alone.0) ∙ joined p.0 in
        let row : out_row u p.0 p.1 ≡ whole_row u rows p.0 =
        ap (λ (b : Bool). p.0 ++ cond b (a.shows p.1) (a.results p.1)) single ∙ ap (λ (s : S). p.0 ++ a.results s) is in
        ap (λ (r : Cells). r ∷ out_rows u ps) row
        ∙ ap (λ (rs : List Cells). whole_row u rows p.0 ∷ rs) (rows_whole all joined ps sound.1 alone.1)

  -- ---- done streams

  module _ {R : Type 0} (w : Reservation R) (sensible : Sensible u) (single : u.settings.partial ≡ false)
      (traces : (h : List Event) (m : Model S) (r : R) → Leads u w h m r → Traced u h m)
      (h : List Event) (m : Model S) (r : R) (led : Leads u w h m r) (fin : Done m) where
    abbrev all_rows : List Cells
    all_rows = accepted_rows u.settings.columns h

    abbrev final : List Cells
    final = cond (none (logged u h)) (grand_keys u) (gathered [] (logged u h))

    final_once : Once final
    final_once =
        cond_both (none (logged u h)) (grand_keys u) (gathered [] (logged u h)) Once (λ _. grand_apart u sensible)
        (λ _. gathered_once [] (logged u h) tt)

    -- the rows handed out are the whole rows of the final keys
    handed_out_lem : TrueOrder u u.settings.order all_rows → handed_out h ≡ map (whole_row u all_rows) final
    handed_out_lem ordered =
        let t = traces h m r led in
        let k = runs_kept u w sensible single traces h m r led (log_ordered u sensible h ordered) in
        let keys : map (λ p. p.0) t.trace ≡ final =
        sym (out-keys u t.trace t.trace_wide) ∙ ap (map (key_part u)) t.rows ∙ k.over fin.0 in
        let joined : (k : Cells) → total u.aggregation (states_held u k t.trace) ≡ total u.aggregation (owns u k all_rows) = λ k.
        ap (total u.aggregation) (sym (append-nil (states_held u k t.trace)))
        ∙ ap
        (λ (ks : List Cells). total u.aggregation (states_held u k t.trace ++ states_held u k (beside u ks m.held.states)))
        (sym (t.over fin.0))
        ∙ t.joined k in
        sym (append-nil (handed_out h))
        ∙ ap (λ (rs : List Cells). handed_out h ++ rs) (sym (nothing-waits m.phase fin.1))
        ∙ sym t.rows
        ∙ rows_whole sensible single all_rows t.trace joined t.trace t.trace_sound
        (states_once t.trace (subst Once (sym keys) final_once))
        ∙ ap (map (whole_row u all_rows)) keys

    final_none : all_rows ≡ [] → final ≡ grand_keys u
    final_none e = cond-true (none (logged u h)) (grand_keys u) (gathered [] (logged u h)) (ap none (logged_none u h e))

    final_some : (all_rows ≡ [] → ⊥) → final ≡ gathered [] (logged u h)
    final_some some =
        cond-false (none (logged u h)) (grand_keys u) (gathered [] (logged u h)) (go (logged u h) (λ e. some (logged_some u sensible h e)))
      where
        go : (ks : List Cells) → (ks ≡ [] → ⊥) → none ks ≡ false
        go [] other = absurd (other refl)
        go (k ∷ ks) other = refl

    by_rows : (rows : List Cells) → all_rows ≡ rows
        → IsPermutation (group_rows u.settings.group_by u.aggregation u.settings.exprs rows) (map (whole_row u rows) final)
    by_rows [] e =
        subst (λ (xs : List Cells). IsPermutation xs (map (whole_row u []) final)) (sym (group_rows_none u sensible))
        (subst (λ (ks : List Cells). IsPermutation (grand_totals u) (map (whole_row u []) ks)) (sym (final_none e)) (IsPermutation-refl (grand_totals u)))
    by_rows (row ∷ rows) e =
        let all = row ∷ rows in
        let n = num_sets u.settings in
        let some : all_rows ≡ [] → ⊥ = λ no_rows. let z : length all_rows ≡ 0 = ap length no_rows in omega (arith, ap length e) in
        let is = final_some some in
        subst (λ (xs : List Cells). IsPermutation xs (map (whole_row u all) final)) (sym (group-rows u sensible row rows))
        (once_shuffled (whole_row u all) (apart_keys u all 0 n) final (apart_keys_once u sensible all 0 n (omega arith)) final_once
        (λ k i. subst (In k) (sym is) (gathered_has [] (logged u h) k
        (logged_in u k h (subst (λ (rs : List Cells). In k (accepted_keys u rs)) (sym e) (in_apart u all 0 n k i)))))
        (λ k i. apart_in u all 0 n k (subst (λ (rs : List Cells). In k (accepted_keys u rs)) e
        (logged_only u k h (gathered_only (logged u h) k (subst (In k) is i))))))

    pub whole_results : TrueOrder u u.settings.order all_rows
        → IsPermutation (group_rows u.settings.group_by u.aggregation u.settings.exprs all_rows) (handed_out h)
    whole_results ordered =
        subst (λ (rs : List Cells). IsPermutation (group_rows u.settings.group_by u.aggregation u.settings.exprs all_rows) rs)
        (sym (handed_out_lem ordered)) (by_rows all_rows refl)

    -- no rows have every order
    none_ordered : (mode : Mode) → all_rows ≡ [] → TrueOrder u mode all_rows
    none_ordered linear e = tt
    none_ordered sorted e = subst (TrueOrder u sorted) (sym e) (λ i j l a b c. absurd (omega arith))
    none_ordered (partially positions) e = subst (TrueOrder u (partially positions)) (sym e) (λ i j l a b c. absurd (omega arith))

    pub grand_results : all_rows ≡ [] → handed_out h ≡ grand_totals u
    grand_results e =
        handed_out_lem (none_ordered u.settings.order e)
        ∙ ap (λ (rs : List Cells). map (whole_row u rs) final) e
        ∙ ap (map (whole_row u [])) (final_none e)
