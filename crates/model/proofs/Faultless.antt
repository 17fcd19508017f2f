-- What an offer without fault has passed, and that no fault of an offer has the number of refused memory.
use Rattle.std.proofs.Common.{◌≡◌, ℕ, zero, suc, ◌+◌, ◌*◌, ◌/◌, ◌%◌, ◌^◌, ◌<◌, ◌≤◌, Bool, true, false, cond, eqb, ltb, leb, List, [], ◌∷◌, map, length, ℤ, Some, None, Option, sym, refl, ap, ◌∙◌, inl, inr, arith}
use Rattle.std.specs.Option.{option_map}
use Rattle.std.specs.List.{AllByRecursion as All}
use Rattle.std.proofs.lemmas.Bool.{cond_both, leb-true, cases_eq}
use Rattle.cells.specs.Refusals.{Refusal, refusal}
use Rattle.cells.specs.Faults.{sized, first_bad, flag_fault, batch_fault}
use Rattle.cells.specs.Rows.{CellOf}
use Rattle.cells.specs.Views.{rows_in}
use Rattle.model.specs.Setups.{Setup, num_sets, row_key}
use Rattle.model.specs.Machine.{Phase, grouping, waiting, bypassing, stopped, Model, count}
use Rattle.model.specs.Steps.{or_else, set_out, key_out, key_fault, room_fault, grouping_fault, total_fault, reading_fault, offer_fault}
use Rattle.model.proofs.Cases.{never}

-- ---- the numbers of faults

abbrev pub Not14 : Option Refusal → Type 0
Not14 None = Unit {0}
Not14 (Some e) = eqb e.number 14 ≡ false

not14_or : (p q : Option Refusal) → Not14 p → Not14 q → Not14 (or_else p q)
not14_or None q a b = b
not14_or (Some e) q a b = a

module _ {S : Type 0} (u : Setup S) where
  not14_reading : (p : Phase) (over : Bool) → Not14 (reading_fault u p over)
  not14_reading grouping over = cond_both over (Some (refusal 7 [])) None Not14 (λ _. refl) (λ _. tt)
  not14_reading (waiting ws whole) over = cond_both over (Some (refusal 7 [])) (Some (refusal 8 [])) Not14 (λ _. refl) (λ _. refl)
  not14_reading bypassing over = cond_both over (Some (refusal 7 [])) None Not14 (λ _. refl) (λ _. tt)
  not14_reading stopped over = refl

  not14_batch : (C : ℕ) (values : List ℤ) (flags : List ℕ) → Not14 (batch_fault C values flags)
  not14_batch C values flags =
      cond_both (sized C values flags) (flag_fault C flags) (Some (refusal 9 [])) Not14
      (λ _. cond_both (ltb (first_bad flags) (length flags)) (Some (refusal 10 (first_bad flags / C ∷ first_bad flags % C ∷ []))) None Not14 (λ _. refl) (λ _. tt))
      (λ _. refl)

  not14_key : (o : Option (ℕ × ℕ)) → Not14 (option_map (λ p. refusal 12 (p.0 ∷ p.1 ∷ [])) o)
  not14_key None = tt
  not14_key (Some p) = refl

  not14_grouping : (p : Phase) (m : Model S) (rows : List (List CellOf)) → Not14 (grouping_fault u p m rows)
  not14_grouping grouping m rows =
      not14_or (key_fault u rows) (room_fault u m rows) (not14_key (key_out u 0 rows))
      (cond_both (leb (count m + length rows * num_sets u.settings) 512) None (Some (refusal 13 [])) Not14 (λ _. tt) (λ _. refl))
  not14_grouping (waiting ws whole) m rows = tt
  not14_grouping bypassing m rows = tt
  not14_grouping stopped m rows = tt

  pub not14 : (m : Model S) (values : List ℤ) (flags : List ℕ) → Not14 (offer_fault u m values flags)
  not14 m values flags =
      let rows : List (List CellOf) = rows_in u.settings.columns values flags in
      not14_or (reading_fault u m.phase m.ended) _ (not14_reading m.phase m.ended)
      (not14_or (batch_fault u.settings.columns values flags) _ (not14_batch u.settings.columns values flags)
      (not14_or (total_fault u m rows) (grouping_fault u m.phase m rows)
      (cond_both (leb (m.rows + length rows) (2 ^ 40)) None (Some (refusal 11 [])) Not14 (λ _. tt) (λ _. refl)) (not14_grouping m.phase m rows)))

-- ---- no fault

neither : {X : Type 0} (p q : Option X) → or_else p q ≡ None → (p ≡ None) × (q ≡ None)
neither None q e = (refl, e)
neither (Some x) q e = never (cc)

unmapped : {X Y : Type 0} (f : X → Y) (o : Option X) → option_map f o ≡ None → o ≡ None
unmapped f None e = refl
unmapped f (Some x) e = never (cc)

passes : {X : Type 0} (b : Bool) (p : Option X) (x : X) → cond b p (Some x) ≡ None → (b ≡ true) × (p ≡ None)
passes true p x e = (refl, e)
passes false p x e = never (cc)

module _ {S : Type 0} (u : Setup S) where
  sets_in : (row : List CellOf) (n s i : ℕ) → set_out u row s n ≡ None → s ≤ i → i < s + n → u.admitted (row_key u.settings i row) ≡ true
  sets_in row zero s i e low high = absurd (omega arith)
  sets_in row (suc n) s i e low high =
      let now = passes (u.admitted (row_key u.settings s row)) (set_out u row (s + 1) n) s e in
      elim (cases_eq s i) [
        | inl same ↦ ap (λ (j : ℕ). u.admitted (row_key u.settings j row)) (sym same) ∙ now.0
        | inr other ↦ sets_in row n (s + 1) i now.1 (omega arith) (omega arith)
      ]

  keys_in : (rows : List (List CellOf)) (at i : ℕ) → key_out u at rows ≡ None → i < num_sets u.settings
      → All (λ k. u.admitted k ≡ true) (map (row_key u.settings i) rows)
  keys_in [] at i e h = tt
  keys_in (row ∷ rows) at i e h =
      let parts = neither (option_map (λ s. (at, s)) (set_out u row 0 (num_sets u.settings))) (key_out u (at + 1) rows) e in
      (sets_in row (num_sets u.settings) 0 i (unmapped (λ s. (at, s)) (set_out u row 0 (num_sets u.settings)) parts.0) (omega arith) (omega arith), keys_in rows (at + 1) i parts.1 h)

  -- an offer without fault: the end step has not run
  pub unended : (m : Model S) (values : List ℤ) (flags : List ℕ) → offer_fault u m values flags ≡ None → m.ended ≡ false
  unended m values flags e = go m.phase m.ended (neither (reading_fault u m.phase m.ended) _ e).0
    where
      go : (p : Phase) (b : Bool) → reading_fault u p b ≡ None → b ≡ false
      go p false f = refl
      go grouping true f = never (cc)
      go (waiting ws whole) true f = never (cc)
      go bypassing true f = never (cc)
      go stopped true f = never (cc)

  -- and while grouping each key is admitted, and there is room
  pub record Roomy (m : Model S) (rows : List (List CellOf)) : Type 0 where
    pub admits : (i : ℕ) → i < num_sets u.settings → All (λ k. u.admitted k ≡ true) (map (row_key u.settings i) rows)
    pub room : count m + length rows * num_sets u.settings ≤ 512

  pub roomy : (m : Model S) (values : List ℤ) (flags : List ℕ) → m.phase ≡ grouping → offer_fault u m values flags ≡ None
      → Roomy m (rows_in u.settings.columns values flags)
  roomy m values flags is e =
      let rows : List (List CellOf) = rows_in u.settings.columns values flags in
      let here : grouping_fault u m.phase m rows ≡ None =
      (neither (total_fault u m rows) _ (neither (batch_fault u.settings.columns values flags) _ (neither (reading_fault u m.phase m.ended) _ e).1).1).1 in
      let parts = neither (key_fault u rows) (room_fault u m rows) (ap (λ (p : Phase). grouping_fault u p m rows) (sym is) ∙ here) in
      record {
        admits = λ i h. keys_in rows 0 i (unmapped (λ p. refusal 12 (p.0 ∷ p.1 ∷ [])) (key_out u 0 rows) parts.0) h;
        room = leb-true (count m + length rows * num_sets u.settings) 512
            (passes (leb (count m + length rows * num_sets u.settings) 512) None (refusal 13 []) parts.1).0;
      }
