-- Every call in Single mode keeps what is known of the keys.
use Rattle.std.proofs.Common.{◌≡◌, ℕ, ◌+◌, ◌*◌, Bool, true, false, ◌&&◌, eqb, ltb, leb, List, [], ◌∷◌, ◌++◌, map, length, take as front, drop, Some, None, Option, sym, refl, ap, ◌∙◌, subst, append_assoc, append-nil, arith}
use Rattle.std.specs.Option.{option_map}
use Rattle.std.proofs.lemmas.List.{take-append-drop}
use Rattle.std.proofs.ByRecursion.{All-append}
use Rattle.std.proofs.lemmas.Bool.{cond-false, cond_both}
use Rattle.cells.specs.declared.emit_to.EmitTo.{EmitTo}
use Rattle.cells.specs.Refusals.{Refusal}
use Rattle.cells.specs.Views.{rows_in}
use Rattle.order.specs.Orders.{linear, emit_to, oom_emit_to}
use Rattle.order.specs.Skip.{told}
use Rattle.model.specs.Setups.{Setup, num_sets, out_width}
use Rattle.model.specs.Machine.{Groups, Phase, grouping, waiting, bypassing, stopped, Model, with_phase, with_held, with_probe, with_rows, as_closing, count, says, absorbed}
use Rattle.model.specs.Steps.{Request, offer, take, finish, Outcome, grouping_fault, offer_fault, ended, wanted, emits_if, reserved, prefixed, limited, grouped, accepted_in, offered_if, piece, passed_on, taken_in, finished_in, step}
use Rattle.model.specs.Runs.{accepted_by, accepted_in as rows_of}
use Rattle.model.specs.Law.{key_part}
use Rattle.model.proofs.Gathering.{Cells}
use Rattle.model.proofs.Batches.{Wide, batch_keys, no_rows, batch_wide, fits, Other, offer-other, offer-fits}
use Rattle.model.proofs.Orderings.{OrderOf, Running, complete, grown-running}
use Rattle.model.proofs.Marking.{absorbs}
use Rattle.model.proofs.Emitting.{out_keys, Kept, Grand, ended_kept}
use Rattle.model.proofs.Settling.{settled-kept}

module _ {S : Type 0} (u : Setup S) where
  -- ---- a batch that is grouped is accepted, and hands out nothing

  abbrev Accepts : Outcome S → Type 0
  Accepts o = (o.out ≡ []) × ((rows : List Cells) → accepted_by u.settings.columns o.answer rows ≡ rows)

  if_accepts : (to : Option EmitTo) (m : Model S) (h : Bool) → Accepts (emits_if u to m h)
  if_accepts None m h = (refl, λ rows. refl)
  if_accepts (Some to) m h = (refl, λ rows. refl)

  reserved-accepts : (m : Model S) (g h : Bool) → Accepts (reserved u m g h)
  reserved-accepts m true h = (refl, λ rows. refl)
  reserved-accepts m false h =
      cond_both (u.settings.partial && ltb 1 (count m)) _ _ Accepts
      (λ _. if_accepts (oom_emit_to m.held.order (wanted u.settings.batch_size (count m))) m h) (λ _. (refl, λ rows. refl))

  prefixed-accepts : (to : Option EmitTo) (m : Model S) (rows : ℕ) (g h : Bool) → Accepts (prefixed u to m rows g h)
  prefixed-accepts (Some to) m rows g h = (refl, λ rows. refl)
  prefixed-accepts None m rows g h =
      let p = option_map (λ p. told p rows (count m)) m.probe in
      cond_both u.settings.partial _ _ Accepts
      (λ _. cond_both (says p && ltb 0 (count m)) _ _ Accepts (λ _. (refl, λ rows. refl)) (λ _. reserved-accepts (with_probe m p) g h))
      (λ _. reserved-accepts m g h)

  grouped_accepts : (m : Model S) (rows : List Cells) (g h : Bool) → Accepts (grouped u m rows g h)
  grouped_accepts m rows g h =
      let n = with_rows (with_held m (absorbed u m.held rows)) (m.rows + length rows) in
      cond_both (limited u.settings.soft_limit (count n)) _ _ Accepts (λ _. (refl, λ rows. refl))
      (λ _. prefixed-accepts (emit_to n.held.order) n (length rows) g h)

  -- ---- the calls

  abbrev pub accepted_keys : List Cells → List Cells
  accepted_keys rows = batch_keys u rows 0 (num_sets u.settings)

  -- what a call leaves, after these rows were accepted
  abbrev After : List Cells → List Cells → List Cells → Outcome S → Type 0
  After out log rows o = Kept u (out ++ o.out) (log ++ accepted_keys rows) o.model

  log_same : (log : List Cells) → log ++ accepted_keys [] ≡ log
  log_same log = ap (λ (ks : List Cells). log ++ ks) (no_rows u 0 (num_sets u.settings)) ∙ append-nil log

  -- no row was accepted
  idle : (out out' log : List Cells) (m : Model S) → out' ≡ out → Kept u out log m → Kept u out' (log ++ accepted_keys []) m
  idle out out' log m e k =
      subst (λ (o : List Cells). Kept u o (log ++ accepted_keys []) m) (sym e)
      (subst (λ (l : List Cells). Kept u out l m) (sym (log_same log)) k)

  -- rows move from those that wait to those that were handed out
  moved : (out log : List Cells) (m n : Model S) (out' : List Cells) → out_keys u out' n.phase ≡ out_keys u out m.phase
      → n.held ≡ m.held → n.ended ≡ m.ended
      → (n.phase ≡ grouping → n.ended ≡ false) → Kept u out log m → Kept u out' log n
  moved out log m n out' is held fin live k = record {
    wide = k.wide;
    live = live;
    running = λ e.
        subst (λ (g : Groups S). Running u u.settings.order (out_keys u out' n.phase) g log) (sym held)
        (subst (λ (ks : List Cells). Running u u.settings.order ks m.held log) (sym is) (k.running (sym fin ∙ e)));
    over = λ e. is ∙ k.over (sym fin ∙ e);
  }

  module _ (single : u.settings.partial ≡ false) (grand : Grand u) (one : (u.settings.order ≡ linear → ⊥) → num_sets u.settings ≡ 1) where
    module _ (out log : List Cells) where
      grouped_kept : (m : Model S) (rows : List Cells) (g h : Bool) → m.phase ≡ grouping
          → grouping_fault u m.phase m rows ≡ None → OrderOf u u.settings.order (log ++ accepted_keys rows)
          → Kept u out log m → Kept u out (log ++ accepted_keys rows) (grouped u m rows g h).model
      grouped_kept m rows g h at fit ordered k =
          let going = k.live at in
          let r = subst (λ p. Running u u.settings.order (out_keys u out p) m.held log) at (k.running going) in
          let f = fits u m rows (subst (λ p. grouping_fault u p m rows ≡ None) at fit) in
          settled-kept u single grand out (log ++ accepted_keys rows)
          (All-append (Wide u) log (accepted_keys rows) k.wide (batch_wide u rows 0 (num_sets u.settings)))
          (with_rows (with_held m (absorbed u m.held rows)) (m.rows + length rows)) at going (length rows) g h
          (absorbs u (out_keys u out grouping) log m rows f u.settings.order one ordered r)

      grouped_after : (m : Model S) (rows : List Cells) (g h : Bool) → m.phase ≡ grouping
          → grouping_fault u m.phase m rows ≡ None → Kept u out log m
          → OrderOf u u.settings.order (log ++ accepted_keys (accepted_by u.settings.columns (grouped u m rows g h).answer rows))
          → After out log (accepted_by u.settings.columns (grouped u m rows g h).answer rows) (grouped u m rows g h)
      grouped_after m rows g h at fit k ordered =
          let a = grouped_accepts m rows g h in
          let all = a.1 rows in
          subst
          (λ (o : List Cells). Kept u o (log ++ accepted_keys (accepted_by u.settings.columns (grouped u m rows g h).answer rows)) (grouped u m rows g h).model)
          (sym (append-nil out) ∙ ap (λ (o : List Cells). out ++ o) (sym a.0))
          (subst (λ (rs : List Cells). Kept u out (log ++ accepted_keys rs) (grouped u m rows g h).model) (sym all)
          (grouped_kept m rows g h at fit (subst (λ (rs : List Cells). OrderOf u u.settings.order (log ++ accepted_keys rs)) all ordered) k))

      accepted-after : (p : Phase) (m : Model S) (rows : List Cells) (g h : Bool) → m.phase ≡ p → (m.phase ≡ bypassing → ⊥)
          → grouping_fault u m.phase m rows ≡ None → Kept u out log m
          → OrderOf u u.settings.order
          (log ++ accepted_keys (accepted_by u.settings.columns (accepted_in u p m rows g h).answer rows))
          → After out log (accepted_by u.settings.columns (accepted_in u p m rows g h).answer rows) (accepted_in u p m rows g h)
      accepted-after grouping m rows g h at plain fit k ordered = grouped_after m rows g h at fit k ordered
      accepted-after bypassing m rows g h at plain fit k ordered = absurd (plain at)
      accepted-after (waiting ws whole) m rows g h at plain fit k ordered = idle out (out ++ []) log m (append-nil out) k
      accepted-after stopped m rows g h at plain fit k ordered = idle out (out ++ []) log m (append-nil out) k

      offered-after : (e : Option Refusal) (m : Model S) (rows : List Cells) (g h : Bool) → Other u e
          → (e ≡ None → grouping_fault u m.phase m rows ≡ None) → (m.phase ≡ bypassing → ⊥) → Kept u out log m
          → OrderOf u u.settings.order (log ++ accepted_keys (accepted_by u.settings.columns (offered_if u e m rows g h).answer rows))
          → After out log (accepted_by u.settings.columns (offered_if u e m rows g h).answer rows) (offered_if u e m rows g h)
      offered-after (Some e) m rows g h other fit plain k ordered =
          subst (λ (rs : List Cells). Kept u (out ++ []) (log ++ accepted_keys rs) m)
          (sym (cond-false (eqb e.number 14) rows [] other)) (idle out (out ++ []) log m (append-nil out) k)
      offered-after None m rows g h other fit plain k ordered = accepted-after m.phase m rows g h refl plain (fit refl) k ordered

      -- the end step, where nothing waits
      end_kept : (out' : List Cells) (m : Model S) (g : Bool) → out_keys u out' grouping ≡ out_keys u out m.phase
          → m.ended ≡ false → Kept u out log m → Kept u out' log (ended u m g).0
      end_kept out' m g is going k =
          let r = subst (λ (ks : List Cells). Running u u.settings.order ks m.held log) (sym is) (k.running going) in
          ended_kept u grand out' log k.wide m g
          (complete u u.settings.order (out_keys u out' grouping) m.held log (grown-running u u.settings.order (out_keys u out' grouping) m.held log r))

      handing : (ws : List Cells) (n : ℕ) → (out ++ front n ws) ++ drop n ws ≡ out ++ ws
      handing ws n = append_assoc out (front n ws) (drop n ws) ∙ ap (λ (rows : List Cells). out ++ rows) (take-append-drop n ws)

      passed_kept : (m : Model S) (given rest ws : List Cells) (g : Bool) → out_keys u out m.phase ≡ map (key_part u) (out ++ ws)
          → (out ++ given) ++ rest ≡ out ++ ws
          → Kept u out log m → Kept u (out ++ (passed_on u m given rest g).out) log (passed_on u m given rest g).model
      passed_kept m given (row ∷ rows) ws g at is k =
          moved out log m (with_phase m (waiting (row ∷ rows) false)) (out ++ given) (ap (map (key_part u)) is ∙ sym at) refl refl
          (λ e. absurd (let z : ◌≡◌ {A = ℕ} 0 1 = cc in omega arith)) k
      passed_kept m given [] ws g at is k =
          cond_both m.ended (with_phase m stopped, []) _ (λ (p : Model S × List (ℕ × Bool)). Kept u (out ++ given) log p.0)
          (λ _. moved out log m (with_phase m stopped) (out ++ given) same refl refl (λ e. absurd (let z : ◌≡◌ {A = ℕ} 0 1 = cc in omega arith)) k)
          (λ going. cond_both m.closing (ended u m g) _ (λ (p : Model S × List (ℕ × Bool)). Kept u (out ++ given) log p.0)
          (λ _. end_kept (out ++ given) m g same going k)
          (λ _. cond_both (says m.probe) bypassing grouping (λ p. Kept u (out ++ given) log (with_phase m p))
          (λ _. moved out log m (with_phase m bypassing) (out ++ given) same refl refl (λ _. going) k)
          (λ _. moved out log m (with_phase m grouping) (out ++ given) same refl refl (λ _. going) k)))
        where
          same : out_keys u (out ++ given) grouping ≡ out_keys u out m.phase
          same = ap (map (key_part u)) is ∙ sym at

      taken_after : (p : Phase) (m : Model S) (v f : ℕ) (g : Bool) → m.phase ≡ p → Kept u out log m
          → After out log [] (taken_in u p m v f g)
      taken_after grouping m v f g at k = idle out (out ++ []) log m (append-nil out) k
      taken_after bypassing m v f g at k = idle out (out ++ []) log m (append-nil out) k
      taken_after stopped m v f g at k = idle out (out ++ []) log m (append-nil out) k
      taken_after (waiting ws whole) m v f g at k =
          let n = piece u.settings.batch_size whole (length ws) in
          cond_both (leb (n * out_width u) v && leb (n * out_width u) f) _ _ (After out log [])
          (λ _. subst (λ (l : List Cells). Kept u (out ++ (passed_on u m (front n ws) (drop n ws) g).out) l (passed_on u m (front n ws) (drop n ws) g).model) (sym (log_same log))
          (passed_kept m (front n ws) (drop n ws) ws g (ap (λ p. out_keys u out p) at) (handing ws n) k))
          (λ _. idle out (out ++ []) log m (append-nil out) k)

      closing_kept : (m : Model S) → Kept u out log m → Kept u out log (as_closing m)
      closing_kept m k = record { wide = k.wide; live = k.live; running = k.running; over = k.over }

      finished-kept : (p : Phase) (m : Model S) (g : Bool) → m.phase ≡ p → (m.phase ≡ bypassing → ⊥) → Kept u out log m
          → Kept u out log (finished_in u p m g).0
      finished-kept grouping m g at plain k = end_kept out m g (ap (λ p. out_keys u out p) (sym at)) (k.live at) k
      finished-kept bypassing m g at plain k = absurd (plain at)
      finished-kept stopped m g at plain k = k
      finished-kept (waiting ws whole) m g at plain k = k

      pub step_kept : (m : Model S) (q : Request) (g h : Bool) → (m.phase ≡ bypassing → ⊥) → Kept u out log m
          → OrderOf u u.settings.order (log ++ accepted_keys (rows_of u.settings.columns q (step u m q g h).answer))
          → After out log (rows_of u.settings.columns q (step u m q g h).answer) (step u m q g h)
      step_kept m (offer values flags) g h plain k ordered =
          offered-after (offer_fault u m values flags) m (rows_in u.settings.columns values flags) g h
          (offer-other u m values flags) (offer-fits u m values flags) plain k ordered
      step_kept m (take v f) g h plain k ordered = taken_after m.phase m v f g refl k
      step_kept m finish g h plain k ordered =
          idle out (out ++ []) log (finished_in u m.phase (as_closing m) g).0 (append-nil out)
          (finished-kept m.phase (as_closing m) g refl plain (closing_kept m k))
