-- What follows the grouping of a batch is the step that is defined.
use Rattle.std.proofs.Common.{◌≡◌, ℕ, ◌<◌, ◌≤◌, Bool, true, false, cond, ◌&&◌, ltb, List, [], ◌∷◌, Some, None, Option, sym, refl, ap, ◌∙◌, subst}
use Rattle.std.specs.Option.{option_map}
use Rattle.std.proofs.lemmas.Bool.{lt-ltb, le-ltb}
use Rattle.cells.specs.declared.emit_to.EmitTo.{EmitTo}
use Rattle.cells.specs.declared.emit_to.EmitTo.TheVariants.{All}
use Rattle.cells.specs.Rows.{CellOf}
use Rattle.order.specs.Orders.{emit_to}
use Rattle.order.specs.Skip.{told}
use Rattle.model.specs.Setups.{Setup, need}
use Rattle.model.specs.Machine.{Model, count, emits, says, with_probe}
use Rattle.model.specs.Steps.{Answer, Outcome, outcome, accepted, limited, ended, emits_asking, reserved, probed, prefixed, settled}
use Rattle.model.specs.Runs.{Reservation}
use Rattle.stream.specs.Streams.{Comes, Ends}

-- the probe has been told
abbrev probed_model : {S : Type 0} → Model S → ℕ → Model S
probed_model m rows = with_probe m (option_map (λ p. told p rows (count m)) m.probe)

-- a plan and a reservation may be exchanged for equal ones
pub comes_there : {P S R : Type 0} (w : Reservation R) (f : P → Bool → Bool → Outcome S) (p p₁ : P) (r r₁ : R) → p₁ ≡ p → r₁ ≡ r
    → (m' : Model S) (r' : R) (a : Answer) (out : List (List CellOf)) → Comes w (f p₁) r₁ m' r' a out → Comes w (f p) r m' r' a out
comes_there {P} {S} {R} w f p p₁ r r₁ plans same m' r' a out comes =
    subst (λ (x : P). Comes w (f x) r m' r' a out) plans (subst (λ (x : R). Comes w (f p₁) x m' r' a out) same comes)

module _ {S R : Type 0} (u : Setup S) (w : Reservation R) where
  -- what comes of a step comes of one that is the same whatever is answered
  pub comes_as : (f f' : Bool → Bool → Outcome S) → ((g h : Bool) → f g h ≡ f' g h) → (r : R) (m' : Model S) (r' : R) (a : Answer) (out : List (List CellOf))
      → Comes w f' r m' r' a out → Comes w f r m' r' a out
  comes_as f f' same r m' r' a out (g, h, qs, is, asked) = (g, h, qs, same g h ∙ is, asked)

  -- an emission with nothing asked before it
  pub emission-comes : (to : EmitTo) (n : Model S) (r : R) (m' : Model S) (r' : R) (g : Bool) → m' ≡ emits u to n → w.asks r (need u (count m')) g r'
      → Comes w (λ x _. emits_asking u to n [] x) r m' r' accepted []
  emission-comes to n r m' r' g made asked = (
    g,
    true,
    (need u (count m'), g) ∷ [],
    ap (λ (x : Model S). outcome x accepted [] ((need u (count x), g) ∷ [])) (sym made),
    (r', asked, refl),
  )

  module _ (m : Model S) (rows : ℕ) (r : R) (m' : Model S) (r' : R) where
    -- ---- the probe

    by_verdict : (b : Bool) → (says (probed_model m rows).probe && ltb 0 (count m)) ≡ b → (g h : Bool)
        → probed u m rows g h
        ≡ cond b (emits_asking u All (probed_model m rows) [] g) (reserved u (probed_model m rows) g h)
    by_verdict b e g h =
        ap (λ (x : Bool).
        cond x (emits_asking u All (probed_model m rows) [] g) (reserved u (probed_model m rows) g h)) e

    module _ (n : Model S) (is : n ≡ probed_model m rows) (b : Bool) (verdict : b ≡ says n.probe) where
      said : (v : Bool) → b ≡ v → says (probed_model m rows).probe ≡ v
      said v e = ap (λ (x : Model S). says x.probe) (sym is) ∙ sym verdict ∙ e

      held : count n ≡ count m
      held = ap count is

      pub skip_comes : b ≡ true → 0 < count n → (g : Bool) → m' ≡ emits u All n → w.asks r (need u (count m')) g r'
          → Comes w (probed u m rows) r m' r' accepted []
      skip_comes affirmed some g made asked =
          comes_as (probed u m rows) (λ x _. emits_asking u All (probed_model m rows) [] x)
          (by_verdict true (ap (λ (x : Bool). x && ltb 0 (count m)) (said true affirmed) ∙ lt-ltb 0 (count m) (subst (λ (k : ℕ). 0 < k) held some)))
          r m' r' accepted [] (emission-comes All (probed_model m rows) r m' r' g (made ∙ ap (emits u All) is) asked)

      grouping-goes_on : (a : Answer) → (says (probed_model m rows).probe && ltb 0 (count m)) ≡ false → Comes w (reserved u n) r m' r' a []
          → Comes w (probed u m rows) r m' r' a []
      grouping-goes_on a denied comes =
          comes_as (probed u m rows) (reserved u (probed_model m rows)) (by_verdict false denied)
          r m' r' a [] (subst (λ (x : Model S). Comes w (reserved u x) r m' r' a []) is comes)

      pub unsaid_comes : (a : Answer) → b ≡ false → Comes w (reserved u n) r m' r' a [] → Comes w (probed u m rows) r m' r' a []
      unsaid_comes a denied = grouping-goes_on a (ap (λ (x : Bool). x && ltb 0 (count m)) (said false denied))

      pub none_held_comes : (a : Answer) → b ≡ true → count n ≤ 0 → Comes w (reserved u n) r m' r' a [] → Comes w (probed u m rows) r m' r' a []
      none_held_comes a affirmed few =
          grouping-goes_on a (ap (λ (x : Bool). x && ltb 0 (count m)) (said true affirmed) ∙ le-ltb 0 (count m) (subst (λ (k : ℕ). k ≤ 0) held few))

    -- ---- what comes before the probe

    by_limit : (b : Bool) → limited u.settings.soft_limit (count m) ≡ b → (g h : Bool)
        → settled u m rows g h ≡ cond b (outcome (ended u m g).0 accepted [] (ended u m g).1) (prefixed u (emit_to m.held.order) m rows g h)
    by_limit b e g h = ap (λ (x : Bool). cond x (outcome (ended u m g).0 accepted [] (ended u m g).1) (prefixed u (emit_to m.held.order) m rows g h)) e

    pub limited-comes : limited u.settings.soft_limit (count m) ≡ true → Ends w (ended u m) r m' r' → Comes w (settled u m rows) r m' r' accepted []
    limited-comes affirmed (g, is, asked) = (
      g,
      true,
      (ended u m g).1,
      by_limit true affirmed g true ∙ ap (λ (x : Model S). outcome x accepted [] (ended u m g).1) is,
      asked,
    )

    module _ (denied : limited u.settings.soft_limit (count m) ≡ false) (o : Option EmitTo) (is : o ≡ emit_to m.held.order) where
      by_prefix : (p : Option EmitTo) → o ≡ p → (g h : Bool) → settled u m rows g h ≡ prefixed u p m rows g h
      by_prefix p e g h = by_limit false denied g h ∙ ap (λ (x : Option EmitTo). prefixed u x m rows g h) (sym is ∙ e)

      pub prefix_comes : (to : EmitTo) → o ≡ Some to → (g : Bool) → m' ≡ emits u to m → w.asks r (need u (count m')) g r'
          → Comes w (settled u m rows) r m' r' accepted []
      prefix_comes to e g made asked =
          comes_as (settled u m rows) (λ x _. emits_asking u to m [] x) (by_prefix (Some to) e) r m' r' accepted [] (emission-comes to m r m' r' g made asked)

      pub partial_comes : (a : Answer) → o ≡ None → u.settings.partial ≡ true → Comes w (probed u m rows) r m' r' a [] → Comes w (settled u m rows) r m' r' a []
      partial_comes a e affirmed =
          comes_as (settled u m rows) (probed u m rows) (λ g h. by_prefix None e g h ∙ ap (λ (x : Bool). cond x (probed u m rows g h) (reserved u m g h)) affirmed) r m' r' a []

      pub single_comes : (a : Answer) → o ≡ None → u.settings.partial ≡ false → Comes w (reserved u m) r m' r' a [] → Comes w (settled u m rows) r m' r' a []
      single_comes a e results =
          comes_as (settled u m rows) (reserved u m) (λ g h. by_prefix None e g h ∙ ap (λ (x : Bool). cond x (probed u m rows g h) (reserved u m g h)) results) r m' r' a []
