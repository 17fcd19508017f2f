-- Every run in Single mode keeps what is known of the keys, by the log of the keys of accepted batches.
use Rattle.std.proofs.Common.{◌≡◌, ℕ, zero, suc, ◌+◌, ◌<◌, ◌≤◌, false, List, [], ◌∷◌, ◌++◌, map, length, get_or, None, sym, refl, ap, ◌∙◌, subst, inl, inr, true≢false, append-nil, arith}
use Rattle.std.proofs.lemmas.List.{map-append, length-append, get_or_append_left}
use Rattle.order.specs.Orders.{Mode, linear, sorted, partially, start as unordered}
use Rattle.model.specs.Setups.{Setup, num_sets, row_key}
use Rattle.model.specs.Machine.{groups, bypassing, Model, start}
use Rattle.model.specs.Steps.{Outcome, step}
use Rattle.model.specs.Runs.{Reservation, Event, Leads, accepted_in, accepted_rows, handed_out}
use Rattle.model.specs.Law.{sorted_by, Unbroken, TrueOrder, Sensible}
use Rattle.model.proofs.Traced.{Traced}
use Rattle.model.proofs.Gathering.{Cells, In, in_left, in_right, in_parts}
use Rattle.model.proofs.Batches.{batch_keys, no_rows, in_batch, batch_in}
use Rattle.model.proofs.Orderings.{Running, OrderOf}
use Rattle.model.proofs.Emitting.{Kept}
use Rattle.model.proofs.Stepping.{accepted_keys, step_kept}
use Rattle.model.proofs.Passed.{one_set_lem, some_sets, grand}

map-map : {X Y Z : Type 0} (f : Y → Z) (g : X → Y) (xs : List X) → map f (map g xs) ≡ map (λ x. f (g x)) xs
map-map f g [] = refl
map-map {X} {Y} {Z} f g (x ∷ xs) = ap (λ (zs : List Z). f (g x) ∷ zs) (map-map f g xs)

module _ {S : Type 0} (u : Setup S) where
  -- ---- the log

  abbrev pub logged : List Event → List Cells
  logged [] = []
  logged (e ∷ h) = logged h ++ accepted_keys u (accepted_in u.settings.columns e.request e.answer)

  abbrev accepted-rows : List Event → List Cells
  accepted-rows h = accepted_rows u.settings.columns h

  -- the log has the keys of the accepted rows
  pub logged_in : (k : Cells) (h : List Event) → In k (accepted_keys u (accepted-rows h)) → In k (logged h)
  logged_in k [] i = subst (In k) (no_rows u 0 (num_sets u.settings)) i
  logged_in k (e ∷ h) i =
      let new = accepted_in u.settings.columns e.request e.answer in
      let n = num_sets u.settings in
      let r = in_batch u (accepted-rows h ++ new) 0 n k i in
      elim (in_parts r.1 (accepted-rows h) new r.4) [
        | inl j ↦ in_left k (logged h) (accepted_keys u new) (logged_in k h (batch_in u (accepted-rows h) 0 n k (r.0, r.1, r.2, r.3, j, r.5)))
        | inr j ↦ in_right k (logged h) (accepted_keys u new) (batch_in u new 0 n k (r.0, r.1, r.2, r.3, j, r.5))
      ]

  pub logged_only : (k : Cells) (h : List Event) → In k (logged h) → In k (accepted_keys u (accepted-rows h))
  logged_only k [] i = absurd i
  logged_only k (e ∷ h) i =
      let old = accepted-rows h in
      let new = accepted_in u.settings.columns e.request e.answer in
      let n = num_sets u.settings in
      elim (in_parts k (logged h) (accepted_keys u new) i) [
        | inl j ↦
            let r = in_batch u old 0 n k (logged_only k h j) in
            batch_in u (old ++ new) 0 n k (r.0, r.1, r.2, r.3, in_left r.1 old new r.4, r.5)
        | inr j ↦
            let r = in_batch u new 0 n k j in
            batch_in u (old ++ new) 0 n k (r.0, r.1, r.2, r.3, in_right r.1 old new r.4, r.5)
      ]

  -- ---- its order

  logged_one : num_sets u.settings ≡ 1 → (h : List Event) → logged h ≡ map (row_key u.settings 0) (accepted-rows h)
  logged_one one [] = refl
  logged_one one (e ∷ h) =
      let new = accepted_in u.settings.columns e.request e.answer in
      let f = row_key u.settings 0 in
      ap (λ (ks : List Cells). ks ++ accepted_keys u new) (logged_one one h)
      ∙ ap (λ (n : ℕ). map f (accepted-rows h) ++ batch_keys u new 0 n) one
      ∙ ap (λ (ks : List Cells). map f (accepted-rows h) ++ ks) (append-nil (map f new))
      ∙ sym (map-append f (accepted-rows h) new)

  sorted-log : (f : Cells → Cells) → num_sets u.settings ≡ 1 → (h : List Event)
      → Unbroken u (map (λ row. f (row_key u.settings 0 row)) (accepted-rows h)) → Unbroken u (map f (logged h))
  sorted-log f one h whole =
      subst (Unbroken u) (sym (ap (map f) (logged_one one h) ∙ map-map f (row_key u.settings 0) (accepted-rows h))) whole

  -- the accepted rows' order is the log's
  pub log_ordered : Sensible u → (h : List Event) → TrueOrder u u.settings.order (accepted-rows h)
      → OrderOf u u.settings.order (logged h)
  log_ordered sensible h = go u.settings.order (one_set_lem u sensible)
    where
      go : (mode : Mode) → ((mode ≡ linear → ⊥) → num_sets u.settings ≡ 1) → TrueOrder u mode (accepted-rows h)
          → OrderOf u mode (logged h)
      go linear one t = tt
      go sorted one t = sorted-log (sorted_by u sorted) (one (λ e. let z : ◌≡◌ {A = ℕ} 0 1 = cc in omega arith)) h t
      go (partially positions) one t =
          sorted-log (sorted_by u (partially positions)) (one (λ e. let z : ◌≡◌ {A = ℕ} 0 1 = cc in omega arith)) h t

  front-unbroken : (f : Cells → Cells) (xs ys : List Cells) → Unbroken u (map f (xs ++ ys)) → Unbroken u (map f xs)
  front-unbroken f xs ys whole i j l a b h e =
      let is : map f (xs ++ ys) ≡ map f xs ++ map f ys = map-append f xs ys in
      let at : (n : ℕ) → n < length (map f xs) → get_or (map f (xs ++ ys)) n [] ≡ get_or (map f xs) n [] =
      λ n m. ap (λ (ks : List Cells). get_or ks n []) is ∙ get_or_append_left (map f xs) (map f ys) [] n m in
      let long : length (map f (xs ++ ys)) ≡ length (map f xs) + length (map f ys) = ap length is ∙ length-append (map f xs) (map f ys) in
      sym (at j (omega arith)) ∙ whole i j l a b (omega arith) (at i (omega arith) ∙ e ∙ sym (at l h)) ∙ at i (omega arith)

  front_ordered : (mode : Mode) (xs ys : List Cells) → OrderOf u mode (xs ++ ys) → OrderOf u mode xs
  front_ordered linear xs ys o = tt
  front_ordered sorted xs ys o = front-unbroken (sorted_by u sorted) xs ys o
  front_ordered (partially positions) xs ys o = front-unbroken (sorted_by u (partially positions)) xs ys o

  -- ---- runs

  start-running : (mode : Mode) → Running u mode [] (groups [] [] (unordered mode)) []
  start-running linear = (refl, refl, refl)
  start-running sorted = (
    None,
    record {
      counted = None;
      order = refl;
      counts = tt;
      split = record { parts = refl; logged = refl; same = tt; others = tt; ends = inl (refl, refl) };
    },
  )
  start-running (partially positions) = (
    None,
    record {
      counted = None;
      order = refl;
      counts = refl;
      split = record { parts = refl; logged = refl; same = tt; others = tt; ends = inl (refl, refl) };
    },
  )

  start-kept : Kept u [] [] (start u)
  start-kept =
      record { wide = tt; live = λ _. refl; running = λ _. start-running u.settings.order; over = λ e. absurd (true≢false (sym e)) }

  module _ {R : Type 0} (w : Reservation R) (sensible : Sensible u) (single : u.settings.partial ≡ false)
      (traces : (h : List Event) (m : Model S) (r : R) → Leads u w h m r → Traced u h m) where
    pub runs_kept : (h : List Event) (m : Model S) (r : R) → Leads u w h m r → OrderOf u u.settings.order (logged h)
        → Kept u (handed_out h) (logged h) m
    runs_kept [] m r (e, empty, granted) ordered = subst (Kept u [] []) (sym e) start-kept
    runs_kept (e ∷ h) m r (m₀, r₀, g, g', qs, led, may, is, asked) ordered =
        let o = step u m₀ e.request g g' in
        let C = u.settings.columns in
        let t = traces h m₀ r₀ led in
        let plain : m₀.phase ≡ bypassing → ⊥ = λ b. true≢false (sym (t.probing (t.passing b)) ∙ single) in
        let new = accepted_keys u (accepted_in C e.request e.answer) in
        let k = runs_kept h m₀ r₀ led (front_ordered u.settings.order (logged h) new ordered) in
        let answered : o.answer ≡ e.answer = ap (λ (x : Outcome S). x.answer) is in
        let went : o.out ≡ e.out = ap (λ (x : Outcome S). x.out) is in
        let left : o.model ≡ m = ap (λ (x : Outcome S). x.model) is in
        let kept = step_kept u single (grand u sensible) (one_set_lem u sensible) (handed_out h) (logged h) m₀ e.request g g' plain k
        (subst (λ a. OrderOf u u.settings.order (logged h ++ accepted_keys u (accepted_in C e.request a))) (sym answered) ordered) in
        subst (Kept u (handed_out h ++ e.out) (logged h ++ new)) left
        (subst (λ (rows : List Cells). Kept u (handed_out h ++ rows) (logged h ++ new) o.model) went
        (subst (λ a. Kept u (handed_out h ++ o.out) (logged h ++ accepted_keys u (accepted_in C e.request a)) o.model) answered kept))

  -- where rows were accepted the log is not empty
  pub logged_some : Sensible u → (h : List Event) → logged h ≡ [] → accepted-rows h ≡ []
  logged_some sensible h e = go (accepted-rows h) (num_sets u.settings) (some_sets u sensible) (λ k i. subst (In k) e (logged_in k h i))
    where
      go : (rows : List Cells) (n : ℕ) → 1 ≤ n → ((k : Cells) → In k (batch_keys u rows 0 n) → ⊥) → rows ≡ []
      go [] n l never = refl
      go (row ∷ rows) zero l never = absurd (omega arith)
      go (row ∷ rows) (suc n) l never = absurd (never (row_key u.settings 0 row) (inl refl))

  -- and where none were it is
  pub logged_none : (h : List Event) → accepted-rows h ≡ [] → logged h ≡ []
  logged_none h e =
      go (logged h)
      (λ k i. subst (In k) (no_rows u 0 (num_sets u.settings)) (subst (λ (rs : List Cells). In k (accepted_keys u rs)) e (logged_only k h i)))
    where
      go : (ks : List Cells) → ((k : Cells) → In k ks → ⊥) → ks ≡ []
      go [] never = refl
      go (k ∷ ks) never = absurd (never k (inl refl))
