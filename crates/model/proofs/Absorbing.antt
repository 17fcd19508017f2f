-- What a batch does to the groups that are held: each key's state takes the own states of the key's rows, set by set.
use Rattle.std.proofs.Common.{◌≡◌, ℕ, zero, suc, ◌+◌, ◌-◌, ◌*◌, ◌<◌, ◌≤◌, min, Bool, true, false, cond, List, [], ◌∷◌, ◌++◌, map, length, get_or, replicate, sym, refl, ap, ◌∙◌, subst, mul-suc, arith}
use Rattle.std.specs.List.{AllByRecursion as All}
use Rattle.std.proofs.lemmas.List.{length-append, length-replicate, length-map}
use Rattle.std.proofs.ByRecursion.{All-from_get_or, All-push, All-append}
use Rattle.cells.specs.Rows.{CellOf}
use Rattle.cells.specs.Same.{same_key}
use Rattle.cells.proofs.Same.{key_decides}
use Rattle.group_values.specs.Tables.{place_of, interned, Distinct}
use Rattle.group_values.specs.TablesLemmas.{distinct_push}
use Rattle.accumulators.specs.Aggregations.{Aggregation, Lawful}
use Rattle.accumulators.specs.Groups.{grown, fed_from, updated}
use Rattle.model.specs.Setups.{Setup, key_width, row_key}
use Rattle.model.specs.Machine.{Groups, groups, beside, held_pairs, interned_all, placed_all, reordered, absorbed_set, absorbed_from}
use Rattle.model.specs.Sql.{total}
use Rattle.model.specs.Law.{states_held}
use Rattle.model.proofs.Totals.{total_append, held_append, held_sound, held_others}
use Rattle.model.proofs.Placing.{interned-ways, interned_all-keeps, interned_all-more, interned_all-length, placed_all-is, beside-more}
use Rattle.model.proofs.Feeding.{get_or-padded, all_replicate, own_pairs, fed_pairs, fed_from-is, sound_at, Fed, fed-pairs}
use Rattle.model.proofs.Modes.{mode_reordered}
use Rattle.model.proofs.Keys.{key_length}

-- ---- groups that fit together

pub record Fit {S : Type 0} (u : Setup S) (g : Groups S) : Type 0 where
  pub sound : All u.aggregation.sound g.states
  pub wide : All (λ k. length k ≡ key_width u.settings) g.keys
  pub aligned : length g.states ≡ length g.keys
  pub apart : Distinct g.keys
  pub bounded : length g.keys ≤ 512
  pub mode : g.order.mode ≡ u.settings.order

distinct_tail : (k : List CellOf) (keys : List (List CellOf)) → Distinct (k ∷ keys) → Distinct keys
distinct_tail k keys d i j l h e = d (suc i) (suc j) (omega arith) (omega arith) e

module _ {S : Type 0} (u : Setup S) where
  pub beside-all : (P : List CellOf → Type 0) (keys : List (List CellOf)) (ss : List S) → All P keys → All (λ p. P p.0) (beside u keys ss)
  beside-all P [] ss h = tt
  beside-all P (k ∷ keys) [] h = (h.0, beside-all P keys [] h.1)
  beside-all P (k ∷ keys) (s ∷ ss) h = (h.0, beside-all P keys ss h.1)

  pub own_pairs_all : (P : List CellOf → Type 0) (s : ℕ) (rows : List (List CellOf)) → All P (map (row_key u.settings s) rows) → All (λ p. P p.0) (own_pairs u s rows)
  own_pairs_all P s [] h = tt
  own_pairs_all P s (row ∷ rows) h = (h.0, own_pairs_all P s rows h.1)

  pub keys_wide : (s : ℕ) (rows : List (List CellOf)) → All (λ k. length k ≡ key_width u.settings) (map (row_key u.settings s) rows)
  keys_wide s [] = tt
  keys_wide s (row ∷ rows) = (key_length u.settings s row, keys_wide s rows)

  -- the pairs of n sets from the s-th on, set by set
  abbrev pub set_pairs : ℕ → ℕ → List (List CellOf) → List (List CellOf × S)
  set_pairs s zero rows = []
  set_pairs s (suc n) rows = own_pairs u s rows ++ set_pairs (s + 1) n rows

  -- the state of a key: that at its place, or the neutral one
  abbrev pub state_at : Groups S → List CellOf → S
  state_at g k = get_or g.states (place_of g.keys k) u.aggregation.neutral

module _ {S : Type 0} (u : Setup S) (l : Lawful u.aggregation) where
  pub own_pairs_sound : (s : ℕ) (rows : List (List CellOf)) → All (λ p. u.aggregation.sound p.1) (own_pairs u s rows)
  own_pairs_sound s [] = tt
  own_pairs_sound s (row ∷ rows) = (l.own_sound u.settings.exprs row, own_pairs_sound s rows)

  total_beside : (k : List CellOf) (keys : List (List CellOf)) (ss : List S) → length ss ≡ length keys → Distinct keys → All u.aggregation.sound ss
      → total u.aggregation (states_held u k (beside u keys ss)) ≡ get_or ss (place_of keys k) u.aggregation.neutral
  total_beside k [] [] al d so = refl
  total_beside k [] (s ∷ ss) al d so = absurd (omega arith)
  total_beside k (x ∷ keys) [] al d so = absurd (omega arith)
  total_beside k (x ∷ keys) (s ∷ ss) al d so = go (same_key x k) refl (total_beside k keys ss (omega arith) (distinct_tail x keys d) so.1)
    where
      go : (b : Bool) → same_key x k ≡ b
          → total u.aggregation (states_held u k (beside u keys ss)) ≡ get_or ss (place_of keys k) u.aggregation.neutral
          → total u.aggregation (cond b (s ∷ states_held u k (beside u keys ss)) (states_held u k (beside u keys ss)))
          ≡ get_or (s ∷ ss) (cond b 0 (suc (place_of keys k))) u.aggregation.neutral
      go true e ih =
          let others : All (λ y. y ≡ k → ⊥) keys =
          All-from_get_or (λ y. y ≡ k → ⊥) keys [] (λ i h f. d 0 (suc i) (omega arith) (omega arith) ((key_decides x k).0 e ∙ sym f)) in
          ap (λ (ts : List S). total u.aggregation (s ∷ ts)) (held_others u k (beside u keys ss) (beside-all u (λ y. y ≡ k → ⊥) keys ss others))
          ∙ l.neutral_right s so.0
      go false e ih = ih

  pub total_held : (k : List CellOf) (g : Groups S) → Fit u g → total u.aggregation (states_held u k (held_pairs u g)) ≡ state_at u g k
  total_held k g f = total_beside k g.keys g.states f.aligned f.apart f.sound

  -- ---- more keys

  -- more keys, and as many states, of which the new ones are neutral: each key has the state that it had
  pub record Padded (g : Groups S) (after : List (List CellOf)) (ss : List S) : Type 0 where
    pub sound : All u.aggregation.sound ss
    pub wide : All (λ k. length k ≡ key_width u.settings) after
    pub aligned : length ss ≡ length after
    pub apart : Distinct after
    pub bounded : length after ≤ 512
    pub at : (k : List CellOf) → get_or ss (place_of after k) u.aggregation.neutral ≡ state_at u g k

  pub padded : (g : Groups S) → Fit u g → (ks : List (List CellOf)) → All (λ k. length k ≡ key_width u.settings) ks
      → Padded g (interned_all u.admitted g.keys ks) (grown u.aggregation.neutral (min (length (interned_all u.admitted g.keys ks)) 512) g.states)
  padded g f ks ws =
      let adm : List CellOf → Bool = u.admitted in
      let N : S = u.aggregation.neutral in
      let after : List (List CellOf) = interned_all adm g.keys ks in
      let more = interned_all-more adm ks g.keys in
      let n : ℕ = min (length after) 512 in
      let longer : length after ≡ length g.keys + length more.0 = ap length more.1 ∙ length-append g.keys more.0 in
      let keeps : (P : List (List CellOf) → Type 0) (Q : List CellOf → Type 0)
      → ((keys : List (List CellOf)) (k : List CellOf) → Q k → P keys → P (interned adm keys k)) → All Q ks → P g.keys → P after =
      λ P Q each qs p. interned_all-keeps adm P Q each ks g.keys qs p in
      let few : length after ≤ 512 =
      keeps (λ x. length x ≤ 512) (λ k. length k ≡ key_width u.settings)
      (λ keys k _ h. interned-ways adm (λ x. length x ≤ 512) keys k h (λ _ r. omega (arith, length-append keys (k ∷ [])))) ws f.bounded in
      record {
        sound = All-append u.aggregation.sound g.states (replicate (n - length g.states) N) f.sound
            (all_replicate u.aggregation.sound (n - length g.states) N l.neutral_sound);
        wide = keeps (All (λ k. length k ≡ key_width u.settings)) (λ k. length k ≡ key_width u.settings)
            (λ keys k w h. interned-ways adm (All (λ k. length k ≡ key_width u.settings)) keys k h (λ _ _. All-push (λ k. length k ≡ key_width u.settings) keys k h w)) ws f.wide;
        aligned = omega (arith, length-append g.states (replicate (n - length g.states) N), length-replicate (n - length g.states) N, f.aligned);
        apart = keeps Distinct (λ k. length k ≡ key_width u.settings)
            (λ keys k _ d. interned-ways adm Distinct keys k d (λ ab _. distinct_push keys k d ab)) ws f.apart;
        bounded = few;
        at = λ k. get_or-padded g.states (n - length g.states) (place_of after k) N
            ∙ ap (λ (x : List (List CellOf)). get_or g.states (place_of x k) N) more.1
            ∙ beside-more g.keys more.0 g.states N k f.aligned;
      }

  -- ---- a batch

  -- the pairs went behind the states of their keys
  pub record Absorbed (g : Groups S) (ps : List (List CellOf × S)) (n : ℕ) (after : Groups S) : Type 0 where
    pub fit : Fit u after
    pub long : length after.keys ≤ length g.keys + n
    pub at : (k : List CellOf) → state_at u after k ≡ u.aggregation.join (state_at u g k) (total u.aggregation (states_held u k ps))

  pub absorbed-set : (g : Groups S) → Fit u g → (rows : List (List CellOf)) (s : ℕ)
      → All (λ k. u.admitted k ≡ true) (map (row_key u.settings s) rows) → length g.keys + length rows ≤ 512
      → Absorbed g (own_pairs u s rows) (length rows) (absorbed_set u g rows s)
  absorbed-set g f rows s ad room =
      let a : Aggregation S = u.aggregation in
      let ks : List (List CellOf) = map (row_key u.settings s) rows in
      let many : length ks ≡ length rows = length-map rows (row_key u.settings s) in
      let after : List (List CellOf) = interned_all u.admitted g.keys ks in
      let places : List ℕ = placed_all u.admitted g.keys ks in
      let long : length after ≤ length g.keys + length ks = interned_all-length u.admitted ks g.keys in
      let p = padded g f ks (keys_wide u s rows) in
      let n : ℕ = min (length after) 512 in
      let full : n ≡ length after = omega arith in
      let room_for : List S = grown a.neutral n g.states in
      let is = placed_all-is u.admitted ks g.keys ad (omega arith) in
      let fed : Fed u after room_for (own_pairs u s rows) (fed_pairs u after room_for (own_pairs u s rows)) =
      fed-pairs u l after room_for (own_pairs u s rows) p.aligned p.sound (own_pairs_sound s rows)
      (own_pairs_all u (λ k. place_of after k < length after) s rows is.1) in
      let states : updated a u.settings.exprs rows places (length after) g.states ≡ fed_pairs u after room_for (own_pairs u s rows) =
      ap (λ (ps : List ℕ). fed_from a u.settings.exprs rows n 0 room_for ps) is.0
      ∙ ap (λ (m : ℕ). fed_from a u.settings.exprs rows m 0 room_for (map (place_of after) ks)) full
      ∙ fed_from-is u after s rows room_for in
      let new : List S → Groups S = λ ss. groups after ss (reordered g.order (length g.keys) ks places (length after)) in
      subst (λ (ss : List S). Absorbed g (own_pairs u s rows) (length rows) (new ss)) (sym states)
      (record {
        fit = record {
          sound = fed.sound;
          wide = p.wide;
          aligned = fed.long ∙ p.aligned;
          apart = p.apart;
          bounded = p.bounded;
          mode = mode_reordered g.order (length g.keys) ks places (length after) ∙ f.mode;
        };
        long = omega arith;
        at = λ k. fed.at k ∙ ap (λ (x : S). a.join x (total a (states_held u k (own_pairs u s rows)))) (p.at k);
      })

  pub set_pairs_sound : (s n : ℕ) (rows : List (List CellOf)) → All (λ p. u.aggregation.sound p.1) (set_pairs u s n rows)
  set_pairs_sound s zero rows = tt
  set_pairs_sound s (suc n) rows =
      All-append (λ p. u.aggregation.sound p.1) (own_pairs u s rows) (set_pairs u (s + 1) n rows) (own_pairs_sound s rows) (set_pairs_sound (s + 1) n rows)

  pub absorbed-from : (n s : ℕ) (g : Groups S) → Fit u g → (rows : List (List CellOf))
      → ((i : ℕ) → s ≤ i → i < s + n → All (λ k. u.admitted k ≡ true) (map (row_key u.settings i) rows)) → length g.keys + length rows * n ≤ 512
      → Absorbed g (set_pairs u s n rows) (length rows * n) (absorbed_from u g rows s n)
  absorbed-from zero s g f rows ad room = record {
    fit = f;
    long = omega arith;
    at = λ k. sym (l.neutral_right (state_at u g k) (sound_at u l g.states (place_of g.keys k) f.sound));
  }
  absorbed-from (suc n) s g f rows ad room =
      let a : Aggregation S = u.aggregation in
      let sum : length rows * suc n ≡ length rows * n + length rows = mul-suc (length rows) n in
      let one = absorbed-set g f rows s (ad s (omega arith) (omega arith)) (omega arith) in
      let next : Groups S = absorbed_set u g rows s in
      let grew : length next.keys ≤ length g.keys + length rows = one.long in
      let rest = absorbed-from n (s + 1) next one.fit rows (λ i low high. ad i (omega arith) (omega arith)) (omega arith) in
      record {
        fit = rest.fit;
        long = omega (arith, rest.long);
        at = λ k.
            let xs : List S = states_held u k (own_pairs u s rows) in
            let ys : List S = states_held u k (set_pairs u (s + 1) n rows) in
            rest.at k
            ∙ ap (λ (x : S). a.join x (total a ys)) (one.at k)
            ∙ l.assoc (state_at u g k) (total a xs) (total a ys)
            ∙ ap (a.join (state_at u g k))
            (sym (total_append a l xs ys (held_sound u k (set_pairs u (s + 1) n rows) (set_pairs_sound (s + 1) n rows)))
            ∙ ap (total a) (sym (held_append u k (own_pairs u s rows) (set_pairs u (s + 1) n rows))));
      }
