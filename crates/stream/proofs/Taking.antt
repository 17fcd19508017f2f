-- A take hands out what is defined, and what comes next is defined too.
use Rattle.std.proofs.Common.{◌≡◌, ℕ, ◌+◌, ◌-◌, ◌*◌, ◌^◌, ◌<◌, ◌≤◌, min, Bool, true, false, cond, ◌&&◌, leb, ◌⊎◌, List, [], ◌∷◌, length, take, drop, sym, refl, ap, ◌∙◌, subst, inl, inr, mul-le-mul_right, mul-le-mul_left, arith, length-drop, length-take}
use Rattle.std.proofs.lemmas.Bool.{le-leb, lt-leb}
use Rattle.cells.specs.Refusals.{refusal}
use Rattle.cells.specs.Rows.{CellOf}
use Rattle.groups.specs.Held.{Narrow}
use Rattle.model.specs.Setups.{Setup, out_width}
use Rattle.model.specs.Machine.{Model, Phase, grouping, waiting, bypassing, stopped, with_phase, says}
use Rattle.model.specs.Steps.{Answer, refused, handed, nothing, Outcome, outcome, unaltered, ended, emptied, piece, passed_on, taken_in, taken}
use Rattle.model.specs.Runs.{Reservation, Asked}
use Rattle.model.proofs.Cases.{never}
use Rattle.stream.specs.declared.state.ExecutionState.{ExecutionState}
use Rattle.stream.specs.declared.state.ExecutionState.TheVariants.{ReadingInput, ProducingOutput, SkippingAggregation, Done}
use Rattle.stream.specs.Streams.{phase_of, Comes, Ends}
use Rattle.stream.specs.Calls.{out_of}

-- a product of few rows and few cells is small
pub small_product : (n W : ℕ) → n ≤ 512 → W ≤ 15 → n * W ≤ 7680
small_product n W few narrow = omega (arith, mul-le-mul_right W few, mul-le-mul_left 512 narrow)

-- and is what the code works out
pub exact_product : (n V W cells : ℕ) → cells ≡ min (n * V) (2 ^ 64 - 1) → V ≡ W → n * W ≤ 7680 → n * W ≡ cells
exact_product n V W cells is same small = omega (arith, ap (λ (k : ℕ). n * k) same, is, small)

-- a slice that is shorter than what the code works out is too short
pub less_product : (n V W cells v f : ℕ) → cells ≡ min (n * V) (2 ^ 64 - 1) → V ≡ W → (v < cells) ⊎ ((cells ≤ v) × (f < cells)) → (v < n * W) ⊎ (f < n * W)
less_product n V W cells v f is same (inl lt) = inl (omega (arith, ap (λ (k : ℕ). n * k) same, is))
less_product n V W cells v f is same (inr lt) = inr (omega (arith, ap (λ (k : ℕ). n * k) same, is, lt.1))

-- a take hands out no more rows than wait
pub few_taken : (size : ℕ) (whole : Bool) (k n : ℕ) → n ≡ piece size whole k → n ≤ k
few_taken size true k n e = omega arith
few_taken size false k n e = omega arith

-- a row of few key columns and of few states or results is short
pub narrow-row : {S : Type 0} (u : Setup S) → length u.settings.group_by.columns ≤ 6 → Narrow u.aggregation → out_width u ≤ 15
narrow-row u few narrow = go u.settings.group_by.grouped u.settings.partial
  where
    go : (a b : Bool) → length u.settings.group_by.columns + cond a 1 0 + cond b u.aggregation.state_cells u.aggregation.aggregates ≤ 15
    go true true = omega (arith, narrow.states)
    go true false = omega (arith, narrow.results)
    go false true = omega (arith, narrow.states)
    go false false = omega (arith, narrow.results)

module _ {S R : Type 0} (u : Setup S) (w : Reservation R) (m : Model S) (r : R) where
  -- ---- once nothing waits

  by_flags : (a b : Bool) → m.ended ≡ a → m.closing ≡ b → (g : Bool)
      → emptied u m g ≡ cond a (with_phase m stopped, []) (cond b (ended u m g) (with_phase m (cond (says m.probe) bypassing grouping), []))
  by_flags a b ends closes g =
      ap (λ (x : Bool). cond x (with_phase m stopped, []) (cond m.closing (ended u m g) (with_phase m (cond (says m.probe) bypassing grouping), []))) ends
      ∙ ap (λ (x : Bool). cond a (with_phase m stopped, []) (cond x (ended u m g) (with_phase m (cond (says m.probe) bypassing grouping), []))) closes

  pub closing_ends : m.ended ≡ false → m.closing ≡ true → (m' : Model S) (r' : R) → Ends w (ended u m) r m' r' → Ends w (emptied u m) r m' r'
  closing_ends ends closes m' r' (g, is, asked) =
      let same = by_flags false true ends closes g in (g, ap (λ x. x.0) same ∙ is, subst (λ (x : Model S × List (ℕ × Bool)). Asked w r x.1 r') (sym same) asked)

  pub reading_ends : m.ended ≡ false → m.closing ≡ false → (b c : Bool) → b ≡ says m.probe → b ≡ c → Ends w (emptied u m) r (with_phase m (cond c bypassing grouping)) r
  reading_ends ends closes b c verdict is =
      let same = by_flags false false ends closes true in
      let skips : says m.probe ≡ c = sym verdict ∙ is in (
        true,
        ap (λ x. x.0) same ∙ ap (λ (x : Bool). with_phase m (cond x bypassing grouping)) skips,
        subst (λ (x : Model S × List (ℕ × Bool)). Asked w r x.1 r) (sym same) refl,
      )

  -- ---- nothing waits

  none_in : (x : ExecutionState) (rows : List (List CellOf)) (v f : ℕ) (g : Bool) → ((b : Bool) → x ≡ ProducingOutput b → ⊥)
      → taken_in u (phase_of x rows) m v f g ≡ outcome m nothing [] []
  none_in ReadingInput rows v f g not = refl
  none_in (ProducingOutput b) rows v f g not = absurd (not b refl)
  none_in SkippingAggregation rows v f g not = refl
  none_in Done rows v f g not = refl

  module _ (x : ExecutionState) (rows : List (List CellOf)) (at : m.phase ≡ phase_of x rows) (v f : ℕ) (not : (b : Bool) → x ≡ ProducingOutput b → ⊥) where
    nothing-taken : (g : Bool) → taken u m v f g ≡ outcome m nothing [] []
    nothing-taken g = ap (λ (p : Phase). taken_in u p m v f g) at ∙ none_in x rows v f g not

    pub none_out : out_of u w m r v f ≡ []
    none_out = ap (λ (o : Outcome S). o.out) (nothing-taken true)

    pub none_comes : Comes w (λ g _. taken u m v f g) r m r nothing (out_of u w m r v f)
    none_comes = (true, true, [], nothing-taken true ∙ ap (λ (xs : List (List CellOf)). outcome m nothing xs []) (sym none_out), refl)

  -- ---- rows wait

  module _ (ws : List (List CellOf)) (whole : Bool) (at : m.phase ≡ waiting ws whole) (v f n : ℕ) (of : n ≡ piece u.settings.batch_size whole (length ws)) where
    within : n ≤ length ws
    within = few_taken u.settings.batch_size whole (length ws) n of

    by_room : (b : Bool) → (leb (n * out_width u) v && leb (n * out_width u) f) ≡ b → (g : Bool)
        → taken u m v f g ≡ cond b (passed_on u m (take n ws) (drop n ws) g) (unaltered m (refusal 15 []))
    by_room b e g =
        ap (λ (p : Phase). taken_in u p m v f g) at
        ∙ ap (λ (k : ℕ). cond (leb (k * out_width u) v && leb (k * out_width u) f) (passed_on u m (take k ws) (drop k ws) g) (unaltered m (refusal 15 []))) (sym of)
        ∙ ap (λ (x : Bool). cond x (passed_on u m (take n ws) (drop n ws) g) (unaltered m (refusal 15 []))) e

    no_room : (v < n * out_width u) ⊎ (f < n * out_width u) → (leb (n * out_width u) v && leb (n * out_width u) f) ≡ false
    no_room (inl lt) = ap (λ (x : Bool). x && leb (n * out_width u) f) (lt-leb (n * out_width u) v lt)
    no_room (inr lt) = go (leb (n * out_width u) v) ∙ lt-leb (n * out_width u) f lt
      where
        go : (b : Bool) → (b && leb (n * out_width u) f) ≡ leb (n * out_width u) f
        go true = refl
        go false = sym (lt-leb (n * out_width u) f lt)

    module _ (short : (v < n * out_width u) ⊎ (f < n * out_width u)) where
      pub short_out : out_of u w m r v f ≡ []
      short_out = ap (λ (o : Outcome S). o.out) (by_room false (no_room short) true)

      pub short_comes : Comes w (λ g _. taken u m v f g) r m r (refused (refusal 15 [])) (out_of u w m r v f)
      short_comes = (
        true,
        true,
        [],
        by_room false (no_room short) true ∙ ap (λ (xs : List (List CellOf)). outcome m (refused (refusal 15 [])) xs []) (sym short_out),
        refl,
      )

    module _ (fits_values : n * out_width u ≤ v) (fits_flags : n * out_width u ≤ f) where
      room : (leb (n * out_width u) v && leb (n * out_width u) f) ≡ true
      room = ap (λ (x : Bool). x && leb (n * out_width u) f) (le-leb (n * out_width u) v fits_values) ∙ le-leb (n * out_width u) f fits_flags

      passed_out : (rest : List (List CellOf)) (g : Bool) → (passed_on u m (take n ws) rest g).out ≡ take n ws
      passed_out [] g = refl
      passed_out (row ∷ rest) g = refl

      pub handed_out_lem : out_of u w m r v f ≡ take n ws
      handed_out_lem = ap (λ (o : Outcome S). o.out) (by_room true room true) ∙ passed_out (drop n ws) true

      counted : length (take n ws) ≡ n
      counted = omega (arith, length-take n ws, within)

      -- the last rows went out
      pub last_comes : length (drop n ws) ≡ 0 → (m' : Model S) (r' : R) → Ends w (emptied u m) r m' r' → Comes w (λ g _. taken u m v f g) r m' r' (handed n) (out_of u w m r v f)
      last_comes none m' r' (g, is, asked) = (
        g,
        true,
        (emptied u m g).1,
        by_room true room g
            ∙ rest_none (drop n ws) none
            ∙ ap (λ (x : Model S). outcome x (handed (length (take n ws))) (take n ws) (emptied u m g).1) is
            ∙ ap (λ (k : ℕ). outcome m' (handed k) (take n ws) (emptied u m g).1) counted
            ∙ ap (λ (xs : List (List CellOf)). outcome m' (handed n) xs (emptied u m g).1) (sym handed_out_lem),
        asked,
      )
        where
          rest_none : (rest : List (List CellOf)) → length rest ≡ 0
              → passed_on u m (take n ws) rest g ≡ outcome (emptied u m g).0 (handed (length (take n ws))) (take n ws) (emptied u m g).1
          rest_none [] e = refl
          rest_none (row ∷ rest) e = never (omega arith)

      -- others wait on
      pub more-comes : (length (drop n ws) ≡ 0 → ⊥) → Comes w (λ g _. taken u m v f g) r (with_phase m (waiting (drop n ws) whole)) r (handed n) (out_of u w m r v f)
      more-comes some = (
        true,
        true,
        [],
        by_room true room true
            ∙ rest_some (drop n ws) some
            ∙ ap (λ (b : Bool). outcome (with_phase m (waiting (drop n ws) b)) (handed (length (take n ws))) (take n ws) []) (sym pieces)
            ∙ ap (λ (k : ℕ). outcome (with_phase m (waiting (drop n ws) whole)) (handed k) (take n ws) []) counted
            ∙ ap (λ (xs : List (List CellOf)). outcome (with_phase m (waiting (drop n ws) whole)) (handed n) xs []) (sym handed_out_lem),
        refl,
      )
        where
          rest_some : (rest : List (List CellOf)) → (length rest ≡ 0 → ⊥)
              → passed_on u m (take n ws) rest true ≡ outcome (with_phase m (waiting rest false)) (handed (length (take n ws))) (take n ws) []
          rest_some [] e = absurd (e refl)
          rest_some (row ∷ rest) e = refl

          pieces : whole ≡ false
          pieces = go whole of
            where
              go : (b : Bool) → n ≡ piece u.settings.batch_size b (length ws) → b ≡ false
              go true e = absurd (some (omega (arith, length-drop n ws)))
              go false e = refl

-- the model after a call may be exchanged for an equal one
pub waits-on : {S R : Type 0} (w : Reservation R) (f : Bool → Bool → Outcome S) (r r' : R) (a : Answer) (out : List (List CellOf)) (m₁ m₂ : Model S) → m₁ ≡ m₂
    → Comes w f r m₁ r' a out → Comes w f r m₂ r' a out
waits-on {S} w f r r' a out m₁ m₂ same = subst (λ (x : Model S). Comes w f r x r' a out) same

-- what still waits is what the state and the rows left say
pub with_state : {S : Type 0} (m : Model S) (left rows : List (List CellOf)) (whole : Bool) (x : ExecutionState) → x ≡ ProducingOutput whole → rows ≡ left
    → with_phase m (waiting left whole) ≡ with_phase m (phase_of x rows)
with_state m left rows whole x at same =
    ap (λ (xs : List (List CellOf)). with_phase m (waiting xs whole)) (sym same) ∙ ap (λ (y : ExecutionState). with_phase m (phase_of y rows)) (sym at)
