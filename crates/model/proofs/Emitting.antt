-- What Single mode keeps of the keys handed out, waiting and held: an emission moves them, and the end step lets all out.
use Rattle.std.proofs.Common.{◌≡◌, ℕ, Bool, true, false, cond, List, [], ◌∷◌, ◌++◌, map, take, sym, refl, ap, ◌∙◌, subst, inl, inr, true≢false, append-nil, arith}
use Rattle.std.specs.List.{AllByRecursion as All}
use Rattle.std.proofs.lemmas.List.{map-append, take-map, take_at}
use Rattle.std.proofs.ByRecursion.{All-take}
use Rattle.std.proofs.lemmas.Bool.{cond-true, cond-false, cond_both, cases_Bool}
use Rattle.cells.specs.declared.emit_to.EmitTo.{EmitTo}
use Rattle.cells.specs.declared.emit_to.EmitTo.TheVariants.{All as Every, First}
use Rattle.cells.specs.Emits.{emitted}
use Rattle.order.specs.Orders.{done}
use Rattle.model.specs.Setups.{Setup, key_width}
use Rattle.model.specs.Machine.{Groups, groups, Phase, grouping, waiting, stopped, Model, with_phase, none, beside, held_pairs, out_rows, emission, emits, grand_keys, totalled, interned_all}
use Rattle.model.specs.Steps.{ending, ended}
use Rattle.model.specs.Runs.{waiting_in}
use Rattle.model.specs.Law.{key_part}
use Rattle.model.proofs.Gathering.{Cells, gathered, all_gathered}
use Rattle.model.proofs.Batches.{Wide}
use Rattle.model.proofs.Orderings.{Running, Complete}

pub all_right : {X : Type 0} (P : X → Type 0) (xs ys : List X) → All P (xs ++ ys) → All P ys
all_right P [] ys a = a
all_right P (x ∷ xs) ys a = all_right P xs ys a.1

append-none : {X : Type 0} (xs ys : List X) → xs ++ ys ≡ [] → (xs ≡ []) × (ys ≡ [])
append-none [] ys e = (refl, e)
append-none (x ∷ xs) ys e = absurd (let z : ◌≡◌ {A = ℕ} 0 1 = cc in omega arith)

none_nil : {X : Type 0} (xs : List X) → none xs ≡ true → xs ≡ []
none_nil [] e = refl
none_nil (x ∷ xs) e = absurd (true≢false (sym e))

module _ {S : Type 0} (u : Setup S) where
  -- ---- the keys of an emission

  beside-keys : (ks : List Cells) (ss : List S) → map (λ p. p.0) (beside u ks ss) ≡ ks
  beside-keys [] ss = refl
  beside-keys (k ∷ ks) [] = ap (λ (ls : List Cells). k ∷ ls) (beside-keys ks [])
  beside-keys (k ∷ ks) (s ∷ ss) = ap (λ (ls : List Cells). k ∷ ls) (beside-keys ks ss)

  beside-wide : (ks : List Cells) (ss : List S) → All (Wide u) ks → All (λ p. Wide u p.0) (beside u ks ss)
  beside-wide [] ss w = tt
  beside-wide (k ∷ ks) [] w = (w.0, beside-wide ks [] w.1)
  beside-wide (k ∷ ks) (s ∷ ss) w = (w.0, beside-wide ks ss w.1)

  pub out-keys : (ps : List (Cells × S)) → All (λ p. Wide u p.0) ps → map (key_part u) (out_rows u ps) ≡ map (λ p. p.0) ps
  out-keys [] w = refl
  out-keys (p ∷ ps) w =
      ap (λ (k : Cells). k ∷ map (key_part u) (out_rows u ps)) (take_at p.0 _ (key_width u.settings) w.0)
      ∙ ap (λ (ks : List Cells). p.0 ∷ ks) (out-keys ps w.1)

  pub emission-keys : (to : EmitTo) (g : Groups S) → All (Wide u) g.keys
      → map (key_part u) (emission u to g) ≡ emitted to g.keys
  emission-keys Every g w = out-keys (held_pairs u g) (beside-wide g.keys g.states w) ∙ beside-keys g.keys g.states
  emission-keys (First n) g w =
      out-keys (take n (held_pairs u g)) (All-take (λ p. Wide u p.0) n (held_pairs u g) (beside-wide g.keys g.states w))
      ∙ sym (take-map (λ p. p.0) n (held_pairs u g))
      ∙ ap (take n) (beside-keys g.keys g.states)

  -- ---- what is kept

  -- the keys of the rows that were handed out and of those that wait
  abbrev pub out_keys : List Cells → Phase → List Cells
  out_keys out p = map (key_part u) (out ++ waiting_in p)

  -- of the rows handed out, the log of the accepted keys and the stream
  pub record Kept (out log : List Cells) (m : Model S) : Type 0 where
    pub wide : All (Wide u) log
    pub live : m.phase ≡ grouping → m.ended ≡ false
    pub running : m.ended ≡ false → Running u u.settings.order (out_keys out m.phase) m.held log
    pub over : m.ended ≡ true → out_keys out m.phase ≡ cond (none log) (grand_keys u) (gathered [] log)

  -- the grand totals' keys are interned as they are
  pub record Grand : Type 0 where
    pub interns : interned_all u.admitted [] (grand_keys u) ≡ grand_keys u
    pub wide : All (Wide u) (grand_keys u)

  pub waiting-keys : (out ws : List Cells) (b : Bool) → out_keys out (waiting ws b) ≡ out_keys out grouping ++ map (key_part u) ws
  waiting-keys out ws b =
      map-append (key_part u) out ws
      ∙ ap (λ (rows : List Cells). map (key_part u) rows ++ map (key_part u) ws) (sym (append-nil out))

  kept_over : (out log : List Cells) (m : Model S) → All (Wide u) log → m.ended ≡ true → (m.phase ≡ grouping → ⊥)
      → out_keys out m.phase ≡ cond (none log) (grand_keys u) (gathered [] log) → Kept out log m
  kept_over out log m w fin other is =
      record { wide = w; live = λ e. absurd (other e); running = λ e. absurd (true≢false (sym fin ∙ e)); over = λ _. is }

  -- ---- the end step

  module _ (grand : Grand) (out log : List Cells) (wide : All (Wide u) log) where
    abbrev final : List Cells
    final = cond (none log) (grand_keys u) (gathered [] log)

    final_wide : All (Wide u) final
    final_wide =
        cond_both (none log) (grand_keys u) (gathered [] log) (All (Wide u)) (λ _. grand.wide) (λ _. all_gathered (Wide u) [] log tt wide)

    totalled-keys : (g : Groups S) → Complete u (out_keys out grouping) g.keys log
        → out_keys out grouping ++ (totalled u g).keys ≡ final
    totalled-keys g c =
        cond_both (none g.keys) _ g (λ (t : Groups S). out_keys out grouping ++ t.keys ≡ final)
        (λ e.
        let no_log = c.some e in
        let parts = append-none (out_keys out grouping) g.keys (c.logged ∙ ap (gathered []) no_log) in
        ap (λ (ks : List Cells). ks ++ interned_all u.admitted g.keys (grand_keys u)) parts.0
        ∙ ap (λ (ks : List Cells). interned_all u.admitted ks (grand_keys u)) parts.1
        ∙ grand.interns
        ∙ sym (cond-true (none log) (grand_keys u) (gathered [] log) (ap none no_log)))
        (λ e. c.logged ∙ sym (cond-false (none log) (grand_keys u) (gathered [] log) (logs e)))
      where
        logs : none g.keys ≡ false → none log ≡ false
        logs e = elim (cases_Bool (none log)) [
          | inl f ↦
              let parts = append-none (out_keys out grouping) g.keys (c.logged ∙ ap (gathered []) (none_nil log f)) in
              absurd (true≢false (ap none (sym parts.1) ∙ e))
          | inr f ↦ f
        ]

    pub ended_kept : (m : Model S) (g : Bool) → Complete u (out_keys out grouping) m.held.keys log
        → Kept out log (ended u m g).0
    ended_kept m g c =
        cond_both (none (ending u m).held.keys) _ _ (λ (p : Model S × List (ℕ × Bool)). Kept out log p.0)
        (λ e. kept_over out log (with_phase (ending u m) stopped) wide refl (λ f. let z : ◌≡◌ {A = ℕ} 0 1 = cc in omega arith)
        (sym (append-nil (out_keys out grouping)) ∙ ap (λ (ks : List Cells). out_keys out grouping ++ ks) (sym (none_nil (ending u m).held.keys e)) ∙ all))
        (λ _. kept_over out log (emits u Every (ending u m)) wide refl (λ f. let z : ◌≡◌ {A = ℕ} 0 1 = cc in omega arith)
        (waiting-keys out (emission u Every (ending u m).held) false
        ∙ ap (λ (ks : List Cells). out_keys out grouping ++ ks)
        (emission-keys Every (ending u m).held (all_right (Wide u) (out_keys out grouping) _ (subst (All (Wide u)) (sym all) final_wide)))
        ∙ all))
      where
        all : out_keys out grouping ++ (ending u m).held.keys ≡ final
        all = totalled-keys (groups m.held.keys m.held.states (done m.held.order)) c
