-- What a batch does to the state of one key: the own states of the key's rows go behind it, in order.
use Rattle.std.proofs.Common.{◌≡◌, ℕ, zero, suc, ◌+◌, ◌<◌, Bool, true, false, cond, List, [], ◌∷◌, ◌++◌, map, length, get_or, set, replicate, sym, refl, ap, ◌∙◌, append_assoc, arith}
use Rattle.std.specs.List.{AllByRecursion as All}
use Rattle.std.proofs.lemmas.List.{length-set, length_push, get_or_at, get_or-set_same, get_or-set_other}
use Rattle.std.proofs.ByRecursion.{All-set}
use Rattle.std.proofs.lemmas.Bool.{both_ways}
use Rattle.cells.specs.Rows.{CellOf}
use Rattle.cells.specs.Same.{same_key}
use Rattle.cells.proofs.Same.{key_decides}
use Rattle.group_values.specs.Tables.{place_of}
use Rattle.accumulators.specs.Aggregations.{Aggregation, Lawful}
use Rattle.accumulators.specs.Groups.{fed, fed_from}
use Rattle.accumulators.specs.Feeding.{fed-below}
use Rattle.model.specs.Setups.{Setup, row_key, own}
use Rattle.model.specs.Sql.{total}
use Rattle.model.specs.Law.{states_held}
use Rattle.model.proofs.Placing.{place_at}

-- neutral states behind are what stands past the end
pub get_or-padded : {S : Type 0} (ss : List S) (n p : ℕ) (e : S) → get_or (ss ++ replicate n e) p e ≡ get_or ss p e
get_or-padded [] zero p e = refl
get_or-padded [] (suc n) zero e = refl
get_or-padded [] (suc n) (suc p) e = get_or-padded [] n p e
get_or-padded (s ∷ ss) n zero e = refl
get_or-padded (s ∷ ss) n (suc p) e = get_or-padded ss n p e

pub all_replicate : {X : Type 0} (P : X → Type 0) (n : ℕ) (x : X) → P x → All P (replicate n x)
all_replicate P zero x h = tt
all_replicate P (suc n) x h = (h, all_replicate P n x h)

module _ {S : Type 0} (u : Setup S) where
  -- each row's key for a set, with the row's own state
  abbrev pub own_pairs : ℕ → List (List CellOf) → List (List CellOf × S)
  own_pairs s [] = []
  own_pairs s (row ∷ rows) = (row_key u.settings s row, own u row) ∷ own_pairs s rows

  -- each pair's state goes to the place of its key
  abbrev pub fed_pairs : List (List CellOf) → List S → List (List CellOf × S) → List S
  fed_pairs keys ss [] = ss
  fed_pairs keys ss (p ∷ ps) = fed_pairs keys (fed u.aggregation (length keys) (place_of keys p.0) p.1 ss) ps

  fed_from-pairs : (keys : List (List CellOf)) (s : ℕ) (front rows : List (List CellOf)) (i : ℕ) (ss : List S) → length front ≡ i
      → fed_from u.aggregation u.settings.exprs (front ++ rows) (length keys) i ss (map (place_of keys) (map (row_key u.settings s) rows))
      ≡ fed_pairs keys ss (own_pairs s rows)
  fed_from-pairs keys s front [] i ss at = refl
  fed_from-pairs keys s front (row ∷ rows) i ss at =
      let a : Aggregation S = u.aggregation in
      let place : ℕ = place_of keys (row_key u.settings s row) in
      let rest : List ℕ = map (place_of keys) (map (row_key u.settings s) rows) in
      ap (λ (r : List CellOf). fed_from a u.settings.exprs (front ++ row ∷ rows) (length keys) (i + 1) (fed a (length keys) place (a.own u.settings.exprs r) ss) rest)
      (get_or_at front row rows [] i at)
      ∙ ap (λ (all : List (List CellOf)). fed_from a u.settings.exprs all (length keys) (i + 1) (fed a (length keys) place (own u row) ss) rest)
      (sym (append_assoc front (row ∷ []) rows))
      ∙ fed_from-pairs keys s (front ++ row ∷ []) rows (i + 1) (fed a (length keys) place (own u row) ss) (omega (arith, length_push front row))

  pub fed_from-is : (keys : List (List CellOf)) (s : ℕ) (rows : List (List CellOf)) (ss : List S)
      → fed_from u.aggregation u.settings.exprs rows (length keys) 0 ss (map (place_of keys) (map (row_key u.settings s) rows))
      ≡ fed_pairs keys ss (own_pairs s rows)
  fed_from-is keys s rows ss = fed_from-pairs keys s [] rows 0 ss refl

  -- the states after pairs whose keys are held
  pub record Fed (keys : List (List CellOf)) (ss : List S) (ps : List (List CellOf × S)) (after : List S) : Type 0 where
    pub long : length after ≡ length ss
    pub sound : All u.aggregation.sound after
    pub at : (k : List CellOf)
        → get_or after (place_of keys k) u.aggregation.neutral
        ≡ u.aggregation.join (get_or ss (place_of keys k) u.aggregation.neutral) (total u.aggregation (states_held u k ps))

module _ {S : Type 0} (u : Setup S) (l : Lawful u.aggregation) where
  pub sound_at : (ss : List S) (p : ℕ) → All u.aggregation.sound ss → u.aggregation.sound (get_or ss p u.aggregation.neutral)
  sound_at [] p h = l.neutral_sound
  sound_at (s ∷ ss) zero h = h.0
  sound_at (s ∷ ss) (suc p) h = sound_at ss p h.1

  pub fed-pairs : (keys : List (List CellOf)) (ss : List S) (ps : List (List CellOf × S)) → length ss ≡ length keys
      → All u.aggregation.sound ss → All (λ p. u.aggregation.sound p.1) ps → All (λ p. place_of keys p.0 < length keys) ps
      → Fed u keys ss ps (fed_pairs u keys ss ps)
  fed-pairs keys ss [] al so ps-so held =
      record { long = refl; sound = so; at = λ k. sym (l.neutral_right (get_or ss (place_of keys k) u.aggregation.neutral) (sound_at ss (place_of keys k) so)) }
  fed-pairs keys ss (p ∷ ps) al so ps-so held =
      let a : Aggregation S = u.aggregation in
      let q : ℕ = place_of keys p.0 in
      let old : S = get_or ss q a.neutral in
      let next : List S = fed a (length keys) q p.1 ss in
      let is : next ≡ set ss q (a.join old p.1) = fed-below a (length keys) q p.1 ss held.0 in
      let len : length next ≡ length ss = ap length is ∙ length-set ss q (a.join old p.1) in
      let so' : All a.sound (set ss q (a.join old p.1)) =
      All-set a.sound ss q (a.join old p.1) (l.join_sound old p.1 (sound_at ss q so) ps-so.0) so in
      let rest = fed-pairs keys next ps (len ∙ al) (rw is so') ps-so.1 held.1 in
      record {
        long = rest.long ∙ len;
        sound = rest.sound;
        at = λ k. rest.at k ∙ ap (λ (ts : List S). a.join (get_or ts (place_of keys k) a.neutral) (total a (states_held u k ps))) is ∙ go k (same_key p.0 k) refl;
      }
    where
      J : S → S → S
      J = u.aggregation.join

      N : S
      N = u.aggregation.neutral

      q : ℕ
      q = place_of keys p.0

      within : q < length ss
      within = omega (arith, al, held.0)

      go : (k : List CellOf) (b : Bool) → same_key p.0 k ≡ b
          → J (get_or (set ss q (J (get_or ss q N) p.1)) (place_of keys k) N) (total u.aggregation (states_held u k ps))
          ≡ J (get_or ss (place_of keys k) N) (total u.aggregation (cond b (p.1 ∷ states_held u k ps) (states_held u k ps)))
      go k true e =
          let same : p.0 ≡ k = (key_decides p.0 k).0 e in
          let T : S = total u.aggregation (states_held u k ps) in
          let v : S = J (get_or ss q N) p.1 in
          ap (λ (x : List CellOf). J (get_or (set ss q v) (place_of keys x) N) T) (sym same)
          ∙ ap (λ (s : S). J s T) (get_or-set_same ss q v N within)
          ∙ l.assoc (get_or ss q N) p.1 T
          ∙ ap (λ (x : List CellOf). J (get_or ss (place_of keys x) N) (J p.1 T)) same
      go k false e =
          let T : S = total u.aggregation (states_held u k ps) in
          let other : place_of keys k ≡ q → ⊥ = λ same.
          both_ways (same_key p.0 k) e
          ((key_decides p.0 k).1 (sym (place_at keys p.0 held.0) ∙ ap (λ (x : ℕ). get_or keys x []) (sym same) ∙ place_at keys k (omega (arith, held.0)))) in
          ap (λ (s : S). J s T) (get_or-set_other ss q (place_of keys k) (J (get_or ss q N) p.1) N other)
