-- The places of keys in a table, and what interning many keys does to it.
use Rattle.std.proofs.Common.{◌≡◌, ℕ, zero, suc, ◌+◌, ◌<◌, ◌≤◌, Bool, true, false, cond, ltb, List, [], ◌∷◌, ◌++◌, map, length, get_or, Some, None, Option, unwrap_or, sym, refl, ap, ◌∙◌, subst, inl, inr, append_assoc, append-nil, arith}
use Rattle.std.specs.List.{AllByRecursion as All}
use Rattle.std.proofs.lemmas.List.{length_push, length-append, get_or_past}
use Rattle.std.proofs.lemmas.Bool.{cases_lt, lt-ltb, ltb-true, ltb-false, and_from, and_parts, cond-true}
use Rattle.cells.specs.Rows.{CellOf}
use Rattle.cells.specs.Same.{same_key}
use Rattle.cells.proofs.Same.{key_decides}
use Rattle.group_values.specs.Tables.{place_of, holds, enters, interned, placed, Absent}
use Rattle.model.specs.Machine.{interned_all, placed_all}
use Rattle.model.proofs.Cases.{same_itself}

-- ---- places

-- the key stands at its place
pub place_at : (keys : List (List CellOf)) (k : List CellOf) → place_of keys k < length keys → get_or keys (place_of keys k) [] ≡ k
place_at [] k h = absurd (omega arith)
place_at (x ∷ keys) k h = go (same_key x k) refl h (place_at keys k)
  where
    go : (b : Bool) → same_key x k ≡ b → cond b 0 (suc (place_of keys k)) < suc (length keys)
        → (place_of keys k < length keys → get_or keys (place_of keys k) [] ≡ k) → get_or (x ∷ keys) (cond b 0 (suc (place_of keys k))) [] ≡ k
    go true e l ih = (key_decides x k).0 e
    go false e l ih = ih (omega arith)

-- and at no place before
pub place_first : (keys : List (List CellOf)) (k : List CellOf) (q : ℕ) → q < length keys → get_or keys q [] ≡ k → place_of keys k ≤ q
place_first [] k q h e = absurd (omega arith)
place_first (x ∷ keys) k zero h e =
    let at : place_of (x ∷ keys) k ≡ 0 = cond-true (same_key x k) 0 (suc (place_of keys k)) ((key_decides x k).1 e) in omega arith
place_first (x ∷ keys) k (suc q) h e = go (same_key x k) (place_first keys k q (omega arith) e)
  where
    go : (b : Bool) → place_of keys k ≤ q → cond b 0 (suc (place_of keys k)) ≤ suc q
    go true ih = omega arith
    go false ih = omega arith

pub place_held : (keys more : List (List CellOf)) (k : List CellOf) → place_of keys k < length keys → place_of (keys ++ more) k ≡ place_of keys k
place_held [] more k h = absurd (omega arith)
place_held (x ∷ keys) more k h = go (same_key x k) h (place_held keys more k)
  where
    go : (b : Bool) → cond b 0 (suc (place_of keys k)) < suc (length keys) → (place_of keys k < length keys → place_of (keys ++ more) k ≡ place_of keys k)
        → cond b 0 (suc (place_of (keys ++ more) k)) ≡ cond b 0 (suc (place_of keys k))
    go true l ih = refl
    go false l ih = ap suc (ih (omega arith))

pub place_new : (keys more : List (List CellOf)) (k : List CellOf) → length keys ≤ place_of keys k
    → place_of (keys ++ more) k ≡ length keys + place_of more k
place_new [] more k h = omega arith
place_new (x ∷ keys) more k h = go (same_key x k) h (place_new keys more k)
  where
    go : (b : Bool) → suc (length keys) ≤ cond b 0 (suc (place_of keys k)) → (length keys ≤ place_of keys k → place_of (keys ++ more) k ≡ length keys + place_of more k)
        → cond b 0 (suc (place_of (keys ++ more) k)) ≡ suc (length keys) + place_of more k
    go true l ih = absurd (omega arith)
    go false l ih = omega (arith, ih (omega arith))

pub absent_from_place : (keys : List (List CellOf)) (k : List CellOf) → length keys ≤ place_of keys k → Absent keys k
absent_from_place keys k h q l e = omega (arith, place_first keys k q l e)

-- more keys behind change nothing of what stands beside a key
pub beside-more : {S : Type 0} (keys more : List (List CellOf)) (ss : List S) (d : S) (k : List CellOf) → length ss ≡ length keys
    → get_or ss (place_of (keys ++ more) k) d ≡ get_or ss (place_of keys k) d
beside-more {S} keys more ss d k al = elim (cases_lt (place_of keys k) (length keys)) [
  | inl h ↦ ap (λ (p : ℕ). get_or ss p d) (place_held keys more k h)
  | inr h ↦
      let new = place_new keys more k h in
      get_or_past ss (place_of (keys ++ more) k) d (omega arith) ∙ sym (get_or_past ss (place_of keys k) d (omega arith))
]

-- ---- interning

module _ (admitted : List CellOf → Bool) where
  -- a key is held, or stays out, or is new
  pub interned-ways : (P : List (List CellOf) → Type 0) (keys : List (List CellOf)) (k : List CellOf)
      → P keys → (Absent keys k → length keys < 512 → P (keys ++ k ∷ [])) → P (interned admitted keys k)
  interned-ways P keys k old new = go (holds keys k) refl (enters admitted keys k) refl
    where
      go : (b : Bool) → holds keys k ≡ b → (c : Bool) → enters admitted keys k ≡ c → P (cond b keys (cond c (keys ++ k ∷ []) keys))
      go true e c f = old
      go false e true f =
          new (absent_from_place keys k (ltb-false (place_of keys k) (length keys) e))
          (ltb-true (length keys) 512 (and_parts (admitted k) (ltb (length keys) 512) f).1)
      go false e false f = old

  pub interned_all-keeps : (P : List (List CellOf) → Type 0) (Q : List CellOf → Type 0)
      → ((keys : List (List CellOf)) (k : List CellOf) → Q k → P keys → P (interned admitted keys k))
      → (ks keys : List (List CellOf)) → All Q ks → P keys → P (interned_all admitted keys ks)
  interned_all-keeps P Q each [] keys qs p = p
  interned_all-keeps P Q each (k ∷ ks) keys qs p = interned_all-keeps P Q each ks (interned admitted keys k) qs.1 (each keys k qs.0 p)

  interned-more : (keys : List (List CellOf)) (k : List CellOf) → (more : List (List CellOf)) × (interned admitted keys k ≡ keys ++ more)
  interned-more keys k =
      interned-ways (λ x. (more : List (List CellOf)) × (x ≡ keys ++ more)) keys k ([], sym (append-nil keys)) (λ _ _. (k ∷ [], refl))

  pub interned_all-more : (ks keys : List (List CellOf)) → (more : List (List CellOf)) × (interned_all admitted keys ks ≡ keys ++ more)
  interned_all-more [] keys = ([], sym (append-nil keys))
  interned_all-more (k ∷ ks) keys =
      let one = interned-more keys k in
      let rest = interned_all-more ks (interned admitted keys k) in
      (one.0 ++ rest.0, rest.1 ∙ ap (λ (x : List (List CellOf)). x ++ rest.0) one.1 ∙ append_assoc keys one.0 rest.0)

  pub interned_all-length : (ks keys : List (List CellOf)) → length (interned_all admitted keys ks) ≤ length keys + length ks
  interned_all-length [] keys = omega arith
  interned_all-length (k ∷ ks) keys =
      let one : length (interned admitted keys k) ≤ length keys + 1 =
      interned-ways (λ x. length x ≤ length keys + 1) keys k (omega arith) (λ _ _. omega (arith, length_push keys k)) in
      omega (arith, interned_all-length ks (interned admitted keys k))

  -- an admitted key is given its place, where there is room
  placed-is : (keys : List (List CellOf)) (k : List CellOf) → admitted k ≡ true → length keys < 512
      → (placed admitted keys k ≡ Some (place_of (interned admitted keys k) k)) × (place_of (interned admitted keys k) k < length (interned admitted keys k))
  placed-is keys k ad room = go (holds keys k) refl
    where
      enter : enters admitted keys k ≡ true
      enter = and_from (admitted k) (ltb (length keys) 512) ad (lt-ltb (length keys) 512 room)

      Given : Option ℕ → List (List CellOf) → Type 0
      Given o x = (o ≡ Some (place_of x k)) × (place_of x k < length x)

      go : (b : Bool) → holds keys k ≡ b
          → Given (cond b (Some (place_of keys k)) (cond (enters admitted keys k) (Some (length keys)) None)) (cond b keys (cond (enters admitted keys k) (keys ++ k ∷ []) keys))
      go true e = (refl, ltb-true (place_of keys k) (length keys) e)
      go false e =
          let alone : place_of (k ∷ []) k ≡ 0 = cond-true (same_key k k) 0 1 (same_itself k) in
          let new = place_new keys (k ∷ []) k (ltb-false (place_of keys k) (length keys) e) in
          let at : place_of (keys ++ k ∷ []) k ≡ length keys = omega arith in
          subst (λ (c : Bool). Given (cond c (Some (length keys)) None) (cond c (keys ++ k ∷ []) keys)) (sym enter)
          (ap Some (sym at), omega (arith, length_push keys k))

  -- admitted keys are given their places in what is held after all are interned, where there is room for each
  pub placed_all-is : (ks keys : List (List CellOf)) → All (λ k. admitted k ≡ true) ks → length keys + length ks ≤ 512
      → (placed_all admitted keys ks ≡ map (place_of (interned_all admitted keys ks)) ks)
      × All (λ k. place_of (interned_all admitted keys ks) k < length (interned_all admitted keys ks)) ks
  placed_all-is [] keys ad room = (refl, tt)
  placed_all-is (k ∷ ks) keys ad room =
      let one : List (List CellOf) = interned admitted keys k in
      let after : List (List CellOf) = interned_all admitted one ks in
      let given = placed-is keys k ad.0 (omega arith) in
      let grew : length one ≤ length keys + 1 = interned_all-length (k ∷ []) keys in
      let rest = placed_all-is ks one ad.1 (omega arith) in
      let more = interned_all-more ks one in
      let same : place_of after k ≡ place_of one k =
      ap (λ (x : List (List CellOf)). place_of x k) more.1 ∙ place_held one more.0 k given.1 in
      let longer : length after ≡ length one + length more.0 = ap length more.1 ∙ length-append one more.0 in (
        ap (λ (o : Option ℕ). unwrap_or o 512 ∷ placed_all admitted one ks) given.0
            ∙ ap (λ (p : ℕ). p ∷ placed_all admitted one ks) (sym same)
            ∙ ap (λ (ps : List ℕ). place_of after k ∷ ps) rest.0,
        (omega (arith, given.1), rest.1),
      )
