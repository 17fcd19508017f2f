-- What an emission leaves, by the number of items that go; of a buffer too, which is rotated and cut.
use Rattle.std.specs.Prelude.{◌≡◌, ℕ, ◌+◌, ◌-◌, ◌≤◌, min, List, ◌++◌, map, length, take, drop, refl}
use Rattle.std.proofs.Common.{sym, ap, ◌∙◌, inl, inr, arith}
use Rattle.std.proofs.lemmas.List.{length-drop, length-take-le, take-append-le, drop-take, drop_all, drop-map}
use Rattle.std.proofs.lemmas.Bool.{cases_lt}
use Rattle.cells.specs.Emits.{left, dropped}
use Rattle.cells.specs.declared.emit_to.EmitTo.{EmitTo}
use Rattle.cells.specs.declared.emit_to.EmitTo.TheVariants.{All, First}

pub dropped-le : (e : EmitTo) (n : ℕ) → dropped e n ≤ n
dropped-le All n = omega arith
dropped-le (First m) n = omega arith

pub left-drop : {X : Type 0} (e : EmitTo) (xs : List X) → left e xs ≡ drop (dropped e (length xs)) xs
left-drop All xs = sym (drop_all (length xs) xs (omega arith))
left-drop (First n) xs = elim (cases_lt n (length xs)) [
  | inl h ↦ let m : n ≡ min n (length xs) = omega arith in ap (λ (k : ℕ). drop k xs) m
  | inr h ↦ drop_all n xs h ∙ sym (drop_all (min n (length xs)) xs (omega arith))
]

pub map-left : {X Y : Type 0} (f : X → Y) (e : EmitTo) (xs : List X) → map f (left e xs) ≡ left e (map f xs)
map-left f All xs = refl
map-left f (First n) xs = sym (drop-map f n xs)

pub length-left : {X : Type 0} (e : EmitTo) (xs : List X) → length (left e xs) ≤ length xs
length-left All xs = omega arith
length-left (First n) xs = omega (arith, length-drop n xs)

-- the first so many of the buffer are held
module _ {X : Type 0} (e : EmitTo) (xs : List X) (held count : ℕ) (within : held ≤ length xs) (drops : count ≡ dropped e held) where
  pub shifted : take (held - count) (drop count xs ++ take count xs) ≡ drop count (take held xs)
  shifted =
      let few = dropped-le e held in
      let all : count + (held - count) ≡ held = omega arith in
      take-append-le (held - count) (drop count xs) (take count xs) (omega (arith, length-drop count xs))
      ∙ sym (drop-take count (held - count) xs)
      ∙ ap (λ (k : ℕ). drop count (take k xs)) all

  pub emit_leaves : {Y : Type 0} (f : X → Y) → map f (take (held - count) (drop count xs ++ take count xs)) ≡ left e (map f (take held xs))
  emit_leaves f =
      let goes : count ≡ dropped e (length (take held xs)) = rw (length-take-le held xs within) drops in
      ap (map f) (shifted ∙ ap (λ (k : ℕ). drop k (take held xs)) goes ∙ sym (left-drop e (take held xs))) ∙ map-left f e (take held xs)
