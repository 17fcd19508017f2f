-- The memory account: the last question asked was for the need of what is held.
use Rattle.std.proofs.Common.{◌≡◌, ℕ, zero, suc, ◌+◌, ◌*◌, ◌<◌, ◌≤◌, Bool, true, false, cond, ◌&&◌, ltb, leb, ◌⊎◌, List, [], ◌∷◌, ◌++◌, map, length, take as front, drop, Some, None, Option, sym, refl, ap, ◌∙◌, subst, inl, inr, true≢false, zero-mul, arith}
use Rattle.std.specs.Option.{option_map}
use Rattle.std.proofs.lemmas.List.{length_push}
use Rattle.std.proofs.lemmas.Bool.{cond_both, cases_lt, cases_Bool}
use Rattle.cells.specs.declared.emit_to.EmitTo.{EmitTo}
use Rattle.cells.specs.Refusals.{Refusal}
use Rattle.cells.specs.Views.{rows_in}
use Rattle.group_values.specs.Tables.{holds, enters, interned}
use Rattle.order.specs.Orders.{emit_to, oom_emit_to, done}
use Rattle.order.specs.Skip.{told}
use Rattle.model.specs.Setups.{Setup, num_sets, key_width, row_key, need, out_width}
use Rattle.model.specs.Machine.{Groups, Phase, grouping, waiting, bypassing, stopped, Model, with_held, with_probe, with_rows, as_closing, count, says, absorbed_set, absorbed_from, absorbed, interned_all, totalled, none, groups}
use Rattle.model.specs.Steps.{Request, offer, take, finish, Answer, accepted, handed, closed, Outcome, outcome, offer_fault, ended, ending, wanted, emits_if, reserved, probed, prefixed, limited, settled, accepted_in, offered_if, emptied, piece, passed_on, taken_in, finished_in, step}
use Rattle.model.specs.Runs.{Reservation, Asked, Event, Leads, Done}
use Rattle.model.proofs.Traced.{Traced}
use Rattle.model.proofs.Gathering.{Cells}

-- ---- what is held grows as rows are absorbed

none_length : {X : Type 0} (xs : List X) → none xs ≡ true → length xs ≡ 0
none_length [] e = refl
none_length (x ∷ xs) e = absurd (true≢false (sym e))

interned-more : (admitted : Cells → Bool) (keys : List Cells) (k : Cells) → length keys ≤ length (interned admitted keys k)
interned-more admitted keys k =
    cond_both (holds keys k) _ _ (λ ks. length keys ≤ length ks) (λ _. omega arith)
    (λ _. cond_both (enters admitted keys k) _ _ (λ ks. length keys ≤ length ks) (λ _. omega (arith, length_push keys k)) (λ _. omega arith))

all_more : (admitted : Cells → Bool) (keys ks : List Cells) → length keys ≤ length (interned_all admitted keys ks)
all_more admitted keys [] = omega arith
all_more admitted keys (k ∷ ks) = omega (arith, interned-more admitted keys k, all_more admitted (interned admitted keys k) ks)

module _ {S : Type 0} (u : Setup S) where
  from_more : (g : Groups S) (rows : List Cells) (s n : ℕ) → length g.keys ≤ length (absorbed_from u g rows s n).keys
  from_more g rows s zero = omega arith
  from_more g rows s (suc n) =
      omega (arith, all_more u.admitted g.keys (map (row_key u.settings s) rows), from_more (absorbed_set u g rows s) rows (s + 1) n)

  totalled_more : (g : Groups S) → length g.keys ≤ length (totalled u g).keys
  totalled_more g =
      cond_both (none g.keys) _ _ (λ (t : Groups S). length g.keys ≤ length t.keys)
      (λ e. omega (arith, none_length g.keys e)) (λ _. omega arith)

  -- ---- the questions of one call

  -- the last question was for what is held after; or nothing was asked, and as many groups are held as before
  abbrev Settles : ℕ → Outcome S → Type 0
  Settles n o =
      ((o.asked ≡ []) × (count o.model ≡ n))
      ⊎ ((before : List (ℕ × Bool)) × (b : Bool) × (o.asked ≡ before ++ (need u (count o.model), b) ∷ []))

  ended_settles : (n : ℕ) (m : Model S) (g : Bool) (a : Answer) (out : List Cells) → n ≤ count m
      → Settles n (outcome (ended u m g).0 a out (ended u m g).1)
  ended_settles n m g a out few =
      cond_both (none (ending u m).held.keys) _ _ (λ (p : Model S × List (ℕ × Bool)). Settles n (outcome p.0 a out p.1))
      (λ e. inl (
        refl,
        omega
            (arith, none_length (ending u m).held.keys e, totalled_more (groups m.held.keys m.held.states (done m.held.order))),
      ))
      (λ _. inr ([], g, refl))

  module _ (n : ℕ) where
    if_settles : (to : Option EmitTo) (m : Model S) (h : Bool) → Settles n (emits_if u to m h)
    if_settles None m h = inr ([], false, refl)
    if_settles (Some to) m h = inr ((need u (count m), false) ∷ [], h, refl)

    reserved-settles : (m : Model S) (g h : Bool) → Settles n (reserved u m g h)
    reserved-settles m true h = inr ([], true, refl)
    reserved-settles m false h =
        cond_both (u.settings.partial && ltb 1 (count m)) _ _ (Settles n)
        (λ _. if_settles (oom_emit_to m.held.order (wanted u.settings.batch_size (count m))) m h)
        (λ _. inr ([], false, refl))

    probed-settles : (m : Model S) (rows : ℕ) (g h : Bool) → Settles n (probed u m rows g h)
    probed-settles m rows g h =
        let p = option_map (λ p. told p rows (count m)) m.probe in
        cond_both (says p && ltb 0 (count m)) _ _ (Settles n) (λ _. inr ([], g, refl)) (λ _. reserved-settles (with_probe m p) g h)

    prefixed-settles : (to : Option EmitTo) (m : Model S) (rows : ℕ) (g h : Bool) → Settles n (prefixed u to m rows g h)
    prefixed-settles (Some to) m rows g h = inr ([], g, refl)
    prefixed-settles None m rows g h =
        cond_both u.settings.partial _ _ (Settles n) (λ _. probed-settles m rows g h) (λ _. reserved-settles m g h)

    settled-settles : (m : Model S) (rows : ℕ) (g h : Bool) → n ≤ count m → Settles n (settled u m rows g h)
    settled-settles m rows g h few =
        cond_both (limited u.settings.soft_limit (count m)) _ _ (Settles n)
        (λ _. ended_settles n m g accepted [] few)
        (λ _. prefixed-settles (emit_to m.held.order) m rows g h)

  accepted-settles : (p : Phase) (m : Model S) (rows : List Cells) (g h : Bool) → Settles (count m) (accepted_in u p m rows g h)
  accepted-settles grouping m rows g h =
      settled-settles (count m) (with_rows (with_held m (absorbed u m.held rows)) (m.rows + length rows)) (length rows) g h
      (from_more m.held rows 0 (num_sets u.settings))
  accepted-settles bypassing m rows g h = inl (refl, refl)
  accepted-settles (waiting ws whole) m rows g h = inl (refl, refl)
  accepted-settles stopped m rows g h = inl (refl, refl)

  offered-settles : (e : Option Refusal) (m : Model S) (rows : List Cells) (g h : Bool)
      → Settles (count m) (offered_if u e m rows g h)
  offered-settles (Some e) m rows g h = inl (refl, refl)
  offered-settles None m rows g h = accepted-settles m.phase m rows g h

  emptied-settles : (m : Model S) (g : Bool) (a : Answer) (out : List Cells)
      → Settles (count m) (outcome (emptied u m g).0 a out (emptied u m g).1)
  emptied-settles m g a out =
      let P : Model S × List (ℕ × Bool) → Type 0 = λ p. Settles (count m) (outcome p.0 a out p.1) in
      cond_both m.ended _ _ P (λ _. inl (refl, refl))
      (λ _. cond_both m.closing _ _ P (λ _. ended_settles (count m) m g a out (omega arith)) (λ _. inl (refl, refl)))

  passed_settles : (m : Model S) (out rest : List Cells) (g : Bool) → Settles (count m) (passed_on u m out rest g)
  passed_settles m out [] g = emptied-settles m g (handed (length out)) out
  passed_settles m out (row ∷ rows) g = inl (refl, refl)

  taken_settles : (p : Phase) (m : Model S) (v f : ℕ) (g : Bool) → Settles (count m) (taken_in u p m v f g)
  taken_settles grouping m v f g = inl (refl, refl)
  taken_settles bypassing m v f g = inl (refl, refl)
  taken_settles stopped m v f g = inl (refl, refl)
  taken_settles (waiting ws whole) m v f g =
      let n = piece u.settings.batch_size whole (length ws) in
      cond_both (leb (n * out_width u) v && leb (n * out_width u) f) _ _ (Settles (count m))
      (λ _. passed_settles m (front n ws) (drop n ws) g)
      (λ _. inl (refl, refl))

  finished-settles : (p : Phase) (m : Model S) (g : Bool)
      → Settles (count m) (outcome (finished_in u p m g).0 closed [] (finished_in u p m g).1)
  finished-settles grouping m g = ended_settles (count m) m g closed [] (omega arith)
  finished-settles bypassing m g = ended_settles (count m) m g closed [] (omega arith)
  finished-settles stopped m g = inl (refl, refl)
  finished-settles (waiting ws whole) m g = inl (refl, refl)

  step-settles : (m : Model S) (q : Request) (g h : Bool) → Settles (count m) (step u m q g h)
  step-settles m (offer values flags) g h = offered-settles (offer_fault u m values flags) m (rows_in u.settings.columns values flags) g h
  step-settles m (take v f) g h = taken_settles m.phase m v f g
  step-settles m finish g h = finished-settles m.phase (as_closing m) g

-- ---- runs

-- what every reservation keeps: it remembers its answer, a grant makes the bytes what was asked, a refusal leaves them, and
-- what is no growth is granted
abbrev pub LawfulAsks : {R : Type 0} → Reservation R → Type 0
LawfulAsks {R} w =
    (s : R) (n : ℕ) (a : Bool) (t : R) → w.asks s n a t → (w.granted t ≡ a) × (w.bytes t ≡ cond a n (w.bytes s)) ×
    (n ≤ w.bytes s → a ≡ true)

module _ {S R : Type 0} (u : Setup S) (w : Reservation R) (lawful : LawfulAsks w) where
  abbrev Reserved : ℕ → R → Type 0
  Reserved n r = (w.granted r ≡ true → w.bytes r ≡ need u n) × (w.granted r ≡ false → w.bytes r < need u n)

  need-none : need u 0 ≡ 0
  need-none = zero-mul (key_width u.settings + u.aggregation.state_cells)

  last_asked : (n : ℕ) (b : Bool) (r t : R) → w.asks r (need u n) b t → Reserved n t
  last_asked n b r t q = go b (lawful r (need u n) b t q)
    where
      go : (b : Bool) → (w.granted t ≡ b) × (w.bytes t ≡ cond b (need u n) (w.bytes r)) × (need u n ≤ w.bytes r → b ≡ true)
          → Reserved n t
      go true l = (λ _. l.1, λ e. absurd (true≢false (sym l.0 ∙ e)))
      go false l = (
        λ e. absurd (true≢false (sym e ∙ l.0)),
        λ _. elim (cases_lt (w.bytes r) (need u n)) [ inl h ↦ omega (arith, l.1) | inr h ↦ absurd (true≢false (sym (l.2 h))) ],
      )

  asked_last : (n : ℕ) (before : List (ℕ × Bool)) (b : Bool) (r t : R) → Asked w r (before ++ (need u n, b) ∷ []) t → Reserved n t
  asked_last n [] b r t (mid, q, e) = subst (λ (x : R). Reserved n x) e (last_asked n b r mid q)
  asked_last n (p ∷ before) b r t (mid, q, qs) = asked_last n before b mid t qs

  after : (o : Outcome S) (n : ℕ) (r t : R) → Settles u n o → Reserved n r → Asked w r o.asked t
      → Reserved (count o.model) t
  after o n r t (inl (silent, same)) kept qs =
      let e : r ≡ t = subst (λ (xs : List (ℕ × Bool)). Asked w r xs t) silent qs in
      subst (λ (x : R). Reserved (count o.model) x) e (subst (λ (k : ℕ). Reserved k r) (sym same) kept)
  after o n r t (inr (before, b, is)) kept qs =
      asked_last (count o.model) before b r t (subst (λ (xs : List (ℕ × Bool)). Asked w r xs t) is qs)

  -- the bytes are exactly what the held groups need, or less while the last answer is no
  pub accounted : (h : List Event) (m : Model S) (r : R) → Leads u w h m r → Reserved (count m) r
  accounted [] m r (e, empty, granted) =
      let none_held : count m ≡ 0 = ap count e in
      (λ _. empty ∙ sym need-none ∙ ap (need u) (sym none_held), λ e. absurd (true≢false (sym granted ∙ e)))
  accounted (e ∷ h) m r (m₀, r₀, g, g', qs, led, may, is, asked) =
      let o = step u m₀ e.request g g' in
      let qs_is : qs ≡ o.asked = ap (λ (x : Outcome S). x.asked) (sym is) in
      let m_is : o.model ≡ m = ap (λ (x : Outcome S). x.model) is in
      subst (λ (x : Model S). Reserved (count x) r) m_is
      (after o (count m₀) r₀ r (step-settles u m₀ e.request g g') (accounted h m₀ r₀ led) (subst (λ (xs : List (ℕ × Bool)). Asked w r₀ xs r) qs_is asked))

  -- a done stream holds no bytes
  pub emptied-account : (h : List Event) (m : Model S) (r : R) → Leads u w h m r → Traced u h m → Done m → w.bytes r ≡ 0
  emptied-account h m r led t fin =
      let none_held : count m ≡ 0 = ap length (t.over fin.0) in
      let kept : Reserved 0 r = subst (λ (n : ℕ). Reserved n r) none_held (accounted h m r led) in
      elim (cases_Bool (w.granted r)) [ inl e ↦ kept.0 e ∙ need-none | inr e ↦ absurd (omega (arith, kept.1 e, need-none)) ]
