-- Under an unbroken order the held keys are those of finished sort keys, and behind them those of the sort key reached.
use Rattle.std.proofs.Common.{◌≡◌, ℕ, suc, ◌+◌, ◌<◌, Bool, true, false, cond, ◌&&◌, eqb, ◌⊎◌, List, [], ◌∷◌, ◌++◌, map, length, get_or, Some, None, Decides, Option, sym, refl, ap, ◌∙◌, subst, inl, inr, true≢false, append_assoc, append-nil, arith}
use Rattle.std.specs.List.{AllByRecursion as All}
use Rattle.std.proofs.lemmas.List.{length_push, length-map, length-append, get_or-map, get_or_append_left, get_or_at, get_or-append-add}
use Rattle.std.proofs.lemmas.Bool.{cond-true, cases_Bool, and_from, and_left, ne_eqb}
use Rattle.cells.specs.Same.{same_key}
use Rattle.cells.proofs.Same.{key_decides}
use Rattle.order.specs.Orders.{is_counted}
use Rattle.order.specs.Runs.{all_same, last_run}
use Rattle.model.specs.Setups.{Setup}
use Rattle.model.specs.Law.{Unbroken}
use Rattle.model.proofs.Gathering.{Cells, In, Lacks, in_left, in_right, in_parts, all_in, all_from_in, place_lacking, added, added_new, added-itself, all_added, added-behind, gathered, gathered_append, gathered_only, length-gathered, places_of}

counted_decides : (c : Option Cells) (key : Cells) → Decides (is_counted c key) (Some key ≡ c)
counted_decides None key = (λ e. absurd (true≢false (sym e)), λ e. let z : ◌≡◌ {A = ℕ} 0 1 = cc in absurd (omega arith))
counted_decides (Some x) key = (λ e. ap Some (sym ((key_decides x key).0 e)), λ e. let i : x ≡ key = cc in (key_decides x key).1 i)

in_index : (x : Cells) (xs : List Cells) → In x xs → (i : ℕ) × (i < length xs) × (get_or xs i [] ≡ x)
in_index x [] i = absurd i
in_index x (y ∷ xs) (inl e) = (0, omega arith, e)
in_index x (y ∷ xs) (inr i) = let r = in_index x xs i in (suc r.0, omega (arith, r.1), r.2)

module _ (f : Cells → Cells) where
  -- the sort key of the last row, if there is one, and a key that is held of it
  abbrev pub Ends : List Cells → Option Cells → List Cells → Type 0
  Ends log c current =
      ((log ≡ []) × (c ≡ None))
      ⊎ ((front : List Cells) × (last : Cells) × (log ≡ front ++ last ∷ []) × (c ≡ Some (f last)) × In last current)

-- the emitted and the held keys are those of the log; of the held ones some have finished, and the others have the sort key c
pub record Split (f : Cells → Cells) (emitted held log : List Cells) (c : Option Cells) (before current : List Cells) : Type 0 where
  pub parts : held ≡ before ++ current
  pub logged : emitted ++ held ≡ gathered [] log
  pub same : All (λ k. Some (f k) ≡ c) current
  pub others : All (λ k. Some (f k) ≡ c → ⊥) (emitted ++ before)
  pub ends : Ends f log c current

module _ (f : Cells → Cells) where
  -- ---- the rows of a batch

  abbrev at : List Cells → ℕ
  at ks = last_run (map f ks)

  abbrev key_at : List Cells → Cells
  key_at ks = get_or (map f ks) (at ks) []

  -- the order's test of whether the batch goes on with the run counted before
  abbrev pub goes_on : Option Cells → List Cells → Bool
  goes_on c ks = eqb (at ks) 0 && is_counted c (key_at ks)

  abbrev AllOf : Option Cells → List Cells → Type 0
  AllOf c ks = All (λ k. Some (f k) ≡ c) ks

  -- every row has the sort key c; or groups are opened, and those of the last row's sort key stand from the place of the
  -- last run's first row on
  abbrev pub Way : List Cells → Option Cells → List Cells → List Cells → Option Cells → List Cells → Type 0
  Way held c before ks c₁ before₁ =
      (AllOf c ks × (c₁ ≡ c) × (before₁ ≡ before))
      ⊎ ((AllOf c ks → ⊥) × (length held < length (gathered held ks)) × (get_or (places_of held ks) (at ks) 0 ≡ length before₁)
      × (Some (key_at ks) ≡ c₁) × (goes_on c ks ≡ false))

  all_same_lem : (x : Cells) (ks : List Cells) → AllOf (Some x) ks → all_same x (map f ks) ≡ true
  all_same_lem x [] a = refl
  all_same_lem x (k ∷ ks) a =
      let e : x ≡ f k = let h : Some (f k) ≡ Some x = a.0 in cc in
      and_from (same_key x (f k)) (all_same x (map f ks)) ((key_decides x (f k)).1 e) (all_same_lem x ks a.1)

  same_all : (x : Cells) (ks : List Cells) → all_same x (map f ks) ≡ true → AllOf (Some x) ks
  same_all x [] e = tt
  same_all x (k ∷ ks) e = go (same_key x (f k)) refl e (same_all x ks)
    where
      go : (b : Bool) → same_key x (f k) ≡ b → (b && all_same x (map f ks)) ≡ true
          → (all_same x (map f ks) ≡ true → AllOf (Some x) ks) → AllOf (Some x) (k ∷ ks)
      go true d h ih = (ap Some (sym ((key_decides x (f k)).0 d)), ih h)
      go false d h ih = absurd (true≢false (sym h))

  -- the last run begins with the first row, or later
  at_first : (k : Cells) (ks : List Cells) → AllOf (Some (f k)) ks → at (k ∷ ks) ≡ 0
  at_first k ks a = cond-true (all_same (f k) (map f ks)) 0 _ (all_same_lem (f k) ks a)

  at_later : (k : Cells) (ks : List Cells) → (AllOf (Some (f k)) ks → ⊥) → at (k ∷ ks) ≡ suc (at ks)
  at_later k ks n = go (all_same (f k) (map f ks)) refl
    where
      go : (b : Bool) → all_same (f k) (map f ks) ≡ b → cond b 0 (suc (at ks)) ≡ suc (at ks)
      go true e = absurd (n (same_all (f k) ks e))
      go false e = refl

  -- where every row has the sort key c the batch goes on with it
  pub goes_on_all : (c : Option Cells) (k : Cells) (ks : List Cells) → AllOf c (k ∷ ks) → goes_on c (k ∷ ks) ≡ true
  goes_on_all c k ks a =
      let first = at_first k ks (subst (λ (o : Option Cells). AllOf o ks) (sym a.0) a.1) in
      ap (λ (n : ℕ). eqb n 0 && is_counted c (get_or (map f (k ∷ ks)) n [])) first ∙ (counted_decides c (f k)).1 a.0

  module _ (held : List Cells) (c : Option Cells) (k : Cells) (ks : List Cells) (c₁ : Option Cells) (before₁ : List Cells) where
    -- a later row begins the last run
    later : (before before' : List Cells) → Way (added held k) (Some (f k)) before' ks c₁ before₁
        → (AllOf (Some (f k)) ks × (c₁ ≡ Some (f k)) × (before₁ ≡ before') → Way held c before (k ∷ ks) c₁ before₁)
        → Way held c before (k ∷ ks) c₁ before₁
    later before before' (inl all) from_all = from_all all
    later before before' (inr (some, opened, place, key, other)) from_all =
        let next_at = at_later k ks some in
        inr (
          λ all. some (subst (λ (o : Option Cells). AllOf o ks) (sym all.0) all.1),
          omega (arith, opened, length-gathered held (k ∷ [])),
          ap (λ (n : ℕ). get_or (places_of held (k ∷ ks)) n 0) next_at ∙ place,
          ap (λ (n : ℕ). Some (get_or (map f (k ∷ ks)) n [])) next_at ∙ key,
          ap (λ (n : ℕ). eqb n 0 && is_counted c (get_or (map f (k ∷ ks)) n [])) next_at
              ∙ and_left (eqb (suc (at ks)) 0) (is_counted c (key_at ks)) (ne_eqb (suc (at ks)) 0 (λ e. omega arith)),
        )

    on_way : (before : List Cells) → Some (f k) ≡ c → Way (added held k) (Some (f k)) before ks c₁ before₁
        → Way held c before (k ∷ ks) c₁ before₁
    on_way before on way =
        later before before way (λ all. inl ((on, subst (λ (o : Option Cells). AllOf o ks) on all.0), all.1 ∙ on, all.2))

    -- this row begins the last run
    new_way : (before : List Cells) → (Some (f k) ≡ c → ⊥) → Lacks held k → Way (added held k) (Some (f k)) held ks c₁ before₁
        → Way held c before (k ∷ ks) c₁ before₁
    new_way before other lacking way =
        later before held way (λ all.
        let first = at_first k ks all.0 in
        let grown : length (added held k) ≡ length held + 1 = ap length (added_new held k lacking) ∙ length_push held k in
        inr (
          λ every. other every.0,
          omega (arith, grown, length-gathered (added held k) ks),
          ap (λ (n : ℕ). get_or (places_of held (k ∷ ks)) n 0) first ∙ place_lacking held k lacking ∙ ap length (sym all.2),
          ap (λ (n : ℕ). Some (get_or (map f (k ∷ ks)) n [])) first ∙ sym all.1,
          ap (λ (n : ℕ). eqb n 0 && is_counted c (get_or (map f (k ∷ ks)) n [])) first ∙ not_counted,
        ))
      where
        not_counted : is_counted c (f k) ≡ false
        not_counted = elim (cases_Bool (is_counted c (f k))) [ inl e ↦ absurd (other ((counted_decides c (f k)).0 e)) | inr e ↦ e ]

-- ---- row by row

module _ {S : Type 0} (u : Setup S) (f : Cells → Cells) where
  -- a sort key other than the last does not come back
  fresh : (log ks current : List Cells) (k : Cells) (c : Option Cells) → Unbroken u (map f (log ++ k ∷ ks))
      → Ends f log c current → (Some (f k) ≡ c → ⊥) → (x : Cells) → In x log → f x ≡ f k → ⊥
  fresh log ks current k c whole (inl (e, n)) other x i same = subst (In x) e i
  fresh log ks current k c whole (inr (front, last, is, at, held)) other x i same =
      go (in_parts x front (last ∷ []) (subst (In x) is i))
    where
      zs : List Cells
      zs = front ++ last ∷ k ∷ ks

      unbroken : Unbroken u (map f zs)
      unbroken =
          subst (λ (l : List Cells). Unbroken u (map f l))
          (ap (λ (l : List Cells). l ++ k ∷ ks) is ∙ append_assoc front (last ∷ []) (k ∷ ks)) whole

      long : length zs ≡ length front + suc (suc (length ks))
      long = length-append front (last ∷ k ∷ ks)

      sort_at : (i : ℕ) → i < length zs → get_or (map f zs) i [] ≡ f (get_or zs i [])
      sort_at i l = get_or-map f zs i [] [] l

      go : In x front ⊎ In x (last ∷ []) → ⊥
      go (inl j) =
          let r = in_index x front j in
          let first : get_or (map f zs) r.0 [] ≡ f x =
          sort_at r.0 (omega (arith, long, r.1)) ∙ ap f (get_or_append_left front (last ∷ k ∷ ks) [] r.0 r.1 ∙ r.2) in
          let mid : get_or (map f zs) (length front) [] ≡ f last =
          sort_at (length front) (omega (arith, long)) ∙ ap f (get_or_at front last (k ∷ ks) [] (length front) refl) in
          let end : get_or (map f zs) (length front + 1) [] ≡ f k =
          sort_at (length front + 1) (omega (arith, long)) ∙ ap f (get_or-append-add front (last ∷ k ∷ ks) 1 []) in
          let come_back =
          unbroken r.0 (length front) (length front + 1) r.1 (omega arith) (omega (arith, long, length-map zs f))
          (first ∙ same ∙ sym end) in
          other (ap Some (sym same ∙ sym first ∙ sym come_back ∙ mid) ∙ sym at)
      go (inr (inl e)) = other (ap Some (sym same ∙ ap f (sym e)) ∙ sym at)
      go (inr (inr j)) = j

  module _ (emitted : List Cells) where
    -- a row goes on with the sort key, or begins another, and its key is then new
    abbrev Next : List Cells → List Cells → Option Cells → List Cells → List Cells → Cells → Type 0
    Next held log c before current k =
        ((Some (f k) ≡ c) × Split f emitted (added held k) (log ++ k ∷ []) (Some (f k)) before (added current k))
        ⊎ ((Some (f k) ≡ c → ⊥) × Lacks held k × Split f emitted (added held k) (log ++ k ∷ []) (Some (f k)) held (k ∷ []))

    module _ (held log before current : List Cells) (c : Option Cells) (k : Cells) (s : Split f emitted held log c before current) where
      log_more : Lacks emitted k → emitted ++ added held k ≡ gathered [] (log ++ k ∷ [])
      log_more l =
          sym (added-behind emitted held k l)
          ∙ ap (λ (ks : List Cells). added ks k) s.logged
          ∙ sym (gathered_append [] log (k ∷ []))

      goes_on_lem : Some (f k) ≡ c → Split f emitted (added held k) (log ++ k ∷ []) (Some (f k)) before (added current k)
      goes_on_lem e =
          let other : (x : Cells) → In x (emitted ++ before) → x ≡ k → ⊥ =
          λ x i is. all_in (λ y. Some (f y) ≡ c → ⊥) (emitted ++ before) x s.others i (ap (λ (y : Cells). Some (f y)) is ∙ e) in
          record {
            parts =
                ap (λ (ks : List Cells). added ks k) s.parts
                ∙ added-behind before current k (all_from_in (λ x. x ≡ k → ⊥) before (λ x i. other x (in_right x emitted before i)));
            logged = log_more (all_from_in (λ x. x ≡ k → ⊥) emitted (λ x i. other x (in_left x emitted before i)));
            same =
                all_added (λ x. Some (f x) ≡ Some (f k)) current k
                (subst (λ (o : Option Cells). All (λ x. Some (f x) ≡ o) current) (sym e) s.same) refl;
            others = subst (λ (o : Option Cells). All (λ x. Some (f x) ≡ o → ⊥) (emitted ++ before)) (sym e) s.others;
            ends = inr (log, k, refl, refl, added-itself current k);
          }

      begins : ((x : Cells) → In x log → f x ≡ f k → ⊥)
          → Lacks held k × Split f emitted (added held k) (log ++ k ∷ []) (Some (f k)) held (k ∷ [])
      begins new =
          let other : (x : Cells) → In x (emitted ++ held) → f x ≡ f k → ⊥ =
          λ x i. new x (gathered_only log x (subst (In x) s.logged i)) in
          let lacking : Lacks held k = all_from_in (λ x. x ≡ k → ⊥) held (λ x i e. other x (in_right x emitted held i) (ap f e)) in (
            lacking,
            record {
              parts = added_new held k lacking;
              logged = log_more (all_from_in (λ x. x ≡ k → ⊥) emitted (λ x i e. other x (in_left x emitted held i) (ap f e)));
              same = (refl, tt);
              others = all_from_in (λ x. Some (f x) ≡ Some (f k) → ⊥) (emitted ++ held) (λ x i e. other x i (let j : f x ≡ f k = cc in j));
              ends = inr (log, k, refl, refl, inl refl);
            },
          )

      next : (ks : List Cells) → Unbroken u (map f (log ++ k ∷ ks)) → Next held log c before current k
      next ks whole = elim (cases_Bool (is_counted c (f k))) [
        | inl e ↦ let on = (counted_decides c (f k)).0 e in inl (on, goes_on_lem on)
        | inr e ↦
            let other : Some (f k) ≡ c → ⊥ = λ on. true≢false (sym ((counted_decides c (f k)).1 on) ∙ e) in
            let r = begins (fresh log ks current k c whole s.ends other) in
            inr (other, r.0, r.1)
      ]

    -- what a batch comes to
    abbrev Ran : List Cells → List Cells → Option Cells → List Cells → List Cells → Type 0
    Ran held log c before ks =
        (c₁ : Option Cells) × (before₁ : List Cells) × (current₁ : List Cells)
        × Split f emitted (gathered held ks) (log ++ ks) c₁ before₁ current₁ × Way f held c before ks c₁ before₁

    pub ran : (held log before current : List Cells) (c : Option Cells) (ks : List Cells)
        → Split f emitted held log c before current → Unbroken u (map f (log ++ ks)) → Ran held log c before ks
    ran held log before current c [] s whole =
        (c, before, current, subst (λ (l : List Cells). Split f emitted held l c before current) (sym (append-nil log)) s, inl (tt, refl, refl))
    ran held log before current c (k ∷ ks) s whole =
        go (next held log before current c k s ks whole)
        (λ before' current' s'. ran (added held k) (log ++ k ∷ []) before' current' (Some (f k)) ks s' regrouped)
      where
        regrouped : Unbroken u (map f ((log ++ k ∷ []) ++ ks))
        regrouped = subst (λ (l : List Cells). Unbroken u (map f l)) (sym (append_assoc log (k ∷ []) ks)) whole

        back : (c₁ : Option Cells) (before₁ current₁ : List Cells)
            → Split f emitted (gathered (added held k) ks) ((log ++ k ∷ []) ++ ks) c₁ before₁ current₁
            → Split f emitted (gathered held (k ∷ ks)) (log ++ k ∷ ks) c₁ before₁ current₁
        back c₁ before₁ current₁ s₁ =
            subst (λ (l : List Cells). Split f emitted (gathered (added held k) ks) l c₁ before₁ current₁) (append_assoc log (k ∷ []) ks) s₁

        go : Next held log c before current k
            → ((before' current' : List Cells) → Split f emitted (added held k) (log ++ k ∷ []) (Some (f k)) before' current'
            → Ran (added held k) (log ++ k ∷ []) (Some (f k)) before' ks)
            → Ran held log c before (k ∷ ks)
        go (inl (on, s')) rest =
            let r = rest before (added current k) s' in
            (r.0, r.1, r.2, back r.0 r.1 r.2 r.3, on_way f held c k ks r.0 r.1 before on r.4)
        go (inr (other, lacking, s')) rest =
            let r = rest held (k ∷ []) s' in
            (r.0, r.1, r.2, back r.0 r.1 r.2 r.3, new_way f held c k ks r.0 r.1 before other lacking r.4)
