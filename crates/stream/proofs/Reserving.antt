-- Memory is asked for, and what follows is the step that is defined.
use Rattle.std.proofs.Common.{◌≡◌, ◌<◌, ◌≤◌, Bool, true, false, cond, ◌&&◌, ltb, [], ◌∷◌, Some, None, Option, sym, refl, ap, ◌∙◌, subst}
use Rattle.std.proofs.lemmas.Bool.{lt-ltb, le-ltb}
use Rattle.cells.specs.declared.emit_to.EmitTo.{EmitTo}
use Rattle.cells.specs.Refusals.{refusal}
use Rattle.order.specs.Orders.{oom_emit_to}
use Rattle.model.specs.Setups.{Setup, need}
use Rattle.model.specs.Machine.{Model, count, emits}
use Rattle.model.specs.Steps.{Answer, Outcome, outcome, accepted, refused, wanted, no_memory, emits_if, reserved}
use Rattle.model.specs.Runs.{Reservation}
use Rattle.stream.specs.Streams.{Comes}

module _ {S R : Type 0} (u : Setup S) (w : Reservation R) (m : Model S) (r : R) where
  pub granted_comes : (m' : Model S) (r' : R) (b : Bool) → b ≡ true → m' ≡ m → w.asks r (need u (count m)) b r' → Comes w (reserved u m) r m' r' accepted []
  granted_comes m' r' b e same asked = (
    true,
    true,
    (need u (count m), true) ∷ [],
    ap (λ (x : Model S). outcome x accepted [] ((need u (count m), true) ∷ [])) (sym same),
    (r', subst (λ (x : Bool). w.asks r (need u (count m)) x r') e asked, refl),
  )

  early : (h : Bool) (b : Bool) → (u.settings.partial && ltb 1 (count m)) ≡ b
      → reserved u m false h ≡ cond b (emits_if u (oom_emit_to m.held.order (wanted u.settings.batch_size (count m))) m h) (no_memory u m)
  early h b e = ap (λ (x : Bool). cond x (emits_if u (oom_emit_to m.held.order (wanted u.settings.batch_size (count m))) m h) (no_memory u m)) e

  pub early_comes : (mid : R) (b : Bool) → b ≡ false → w.asks r (need u (count m)) b mid
      → (p : Bool) → p ≡ u.settings.partial → p ≡ true → 1 < count m
      → (o : Option EmitTo) (to : EmitTo) → o ≡ oom_emit_to m.held.order (wanted u.settings.batch_size (count m)) → o ≡ Some to
      → (m' : Model S) (r' : R) (h : Bool) → m' ≡ emits u to m → w.asks mid (need u (count m')) h r'
      → Comes w (reserved u m) r m' r' accepted []
  early_comes mid b e asked p ps pt many o to is some m' r' h made again =
      let both : (u.settings.partial && ltb 1 (count m)) ≡ true = ap (λ (x : Bool). x && ltb 1 (count m)) (sym ps ∙ pt) ∙ lt-ltb 1 (count m) many in
      let found : oom_emit_to m.held.order (wanted u.settings.batch_size (count m)) ≡ Some to = sym is ∙ some in (
        false,
        h,
        (need u (count m), false) ∷ (need u (count m'), h) ∷ [],
        early h true both ∙ ap (λ (x : Option EmitTo). emits_if u x m h) found
            ∙ ap (λ (x : Model S). outcome x accepted [] ((need u (count m), false) ∷ (need u (count x), h) ∷ [])) (sym made),
        (mid, subst (λ (x : Bool). w.asks r (need u (count m)) x mid) e asked, (r', again, refl)),
      )

  none_comes : (m' : Model S) (r' : R) (b : Bool) → b ≡ false → w.asks r (need u (count m)) b r' → m' ≡ m → reserved u m false true ≡ no_memory u m
      → Comes w (reserved u m) r m' r' (refused (refusal 14 [])) []
  none_comes m' r' b e asked same is = (
    false,
    true,
    (need u (count m), false) ∷ [],
    is ∙ ap (λ (x : Model S). outcome x (refused (refusal 14 [])) [] ((need u (count m), false) ∷ [])) (sym same),
    (r', subst (λ (x : Bool). w.asks r (need u (count m)) x r') e asked, refl),
  )

  module _ (m' : Model S) (r' : R) (b : Bool) (e : b ≡ false) (asked : w.asks r (need u (count m)) b r') (same : m' ≡ m) where
    -- results are never sent out early
    pub single_comes : (p : Bool) → p ≡ u.settings.partial → p ≡ false → Comes w (reserved u m) r m' r' (refused (refusal 14 [])) []
    single_comes p ps pf = none_comes m' r' b e asked same (early true false (ap (λ (x : Bool). x && ltb 1 (count m)) (sym ps ∙ pf)))

    pub few_comes : (p : Bool) → p ≡ u.settings.partial → p ≡ true → count m ≤ 1 → Comes w (reserved u m) r m' r' (refused (refusal 14 [])) []
    few_comes p ps pt few =
        none_comes m' r' b e asked same (early true false (ap (λ (x : Bool). x && ltb 1 (count m)) (sym ps ∙ pt) ∙ le-ltb 1 (count m) few))

    pub unfinished_comes : (p : Bool) → p ≡ u.settings.partial → p ≡ true → 1 < count m
        → (o : Option EmitTo) → o ≡ oom_emit_to m.held.order (wanted u.settings.batch_size (count m)) → o ≡ None
        → Comes w (reserved u m) r m' r' (refused (refusal 14 [])) []
    unfinished_comes p ps pt many o is none =
        none_comes m' r' b e asked same
        (early true true (ap (λ (x : Bool). x && ltb 1 (count m)) (sym ps ∙ pt) ∙ lt-ltb 1 (count m) many)
        ∙ ap (λ (x : Option EmitTo). emits_if u x m true) (sym is ∙ none))

-- a plan and a model may be exchanged for equal ones
module _ {P S R : Type 0} (setup : P → Setup S) (w : Reservation R) (p p₁ : P) (m m₁ : Model S) (plans : p₁ ≡ p) (models : m₁ ≡ m) where
  pub asks_there : (r r₁ : R) (b : Bool) → w.asks r (need (setup p) (count m)) b r₁ → w.asks r (need (setup p₁) (count m₁)) b r₁
  asks_there r r₁ b asked =
      subst (λ (x : P). w.asks r (need (setup x) (count m₁)) b r₁) (sym plans) (subst (λ (x : Model S). w.asks r (need (setup p) (count x)) b r₁) (sym models) asked)

  pub comes_here : (f : P → Model S → Bool → Bool → Outcome S) (r : R) (m' : Model S) (r' : R) (a : Answer)
      → Comes w (f p₁ m₁) r m' r' a [] → Comes w (f p m) r m' r' a []
  comes_here f r m' r' a comes =
      subst (λ (x : P). Comes w (f x m) r m' r' a []) plans (subst (λ (x : Model S). Comes w (f p₁ x) r m' r' a []) models comes)
