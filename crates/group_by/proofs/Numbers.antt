-- Marks read one by one behind an ordinal, and the bits that they take.
use Rattle.std.proofs.Common.{◌≡◌, ℕ, suc, ◌+◌, ◌-◌, ◌*◌, ◌^◌, ◌<◌, ◌≤◌, Bool, true, false, cond, ltb, List, [], ◌∷◌, length, get_or, drop, Some, None, fold, Option, sym, refl, ap, ◌∙◌, subst, lt_of_lt_of_le, lt_of_le_of_lt, mul-le-mul_right, mul_assoc, mul_comm, add-mul, add-one, arith, pow_mono, pow-add}
use mir.Val.{bool_byte}
use Rattle.std.proofs.lemmas.Nat.{mul-add-lt, leading_length, leading_top}
use Rattle.std.proofs.lemmas.List.{at_drop_more}
use Rattle.std.proofs.lemmas.Bool.{ltb-false}
use Rattle.cells.specs.Refusals.{Refusal}
use Rattle.group_by.specs.Marks.{with_mark, mark_value, digits, Digits}
use Rattle.group_by.specs.Ids.{bits_of, group_id_fault, id_of}

pub twice_pow : (n : ℕ) → 2 ^ suc n ≡ 2 ^ n * 2
twice_pow n = ap (λ (k : ℕ). 2 ^ k) (sym (add-one n)) ∙ pow-add 2 n 1

-- ---- marks behind an ordinal

pub marks_behind : (marks : List Bool) (a : ℕ) → fold with_mark a marks ≡ id_of marks a
marks_behind [] a = omega arith
marks_behind (m ∷ marks) a =
    let d : ℕ = cond m 1 0 in
    let p : ℕ = 2 ^ length marks in
    let e = marks_behind marks (a * 2 + d) in
    let f = marks_behind marks (0 * 2 + d) in
    let q : a * 2 ^ suc (length marks) ≡ a * (p * 2) = ap (λ (k : ℕ). a * k) (twice_pow (length marks)) in
    let s : (a * 2 + d) * p ≡ a * 2 * p + d * p = add-mul (a * 2) d p in
    let t : a * 2 * p ≡ a * (p * 2) = mul_assoc a 2 p ∙ ap (λ (k : ℕ). a * k) (mul_comm 2 p) in
    let z : (0 * 2 + d) * p ≡ d * p = ap (λ (k : ℕ). k * p) (omega arith) in
    omega (arith, e, f, q, s, t, z)

marks_grow : (marks : List Bool) (a : ℕ) → a ≤ fold with_mark a marks
marks_grow [] a = omega arith
marks_grow (m ∷ marks) a = omega (arith, marks_grow marks (with_mark a m))

module _ (marks : List Bool) (i a d z : ℕ) (l : i < length marks) (mark : d ≡ bool_byte (get_or marks i false))
    (so_far : fold with_mark a (drop i marks) ≡ z) where
  digit : (m : Bool) → bool_byte m ≡ cond m 1 0
  digit true = refl
  digit false = refl

  pub mark_more : fold with_mark (a * 2 + d) (drop (i + 1) marks) ≡ z
  mark_more =
      ap (λ (k : ℕ). fold with_mark (a * 2 + k) (drop (i + 1) marks)) (mark ∙ digit (get_or marks i false))
      ∙ sym (at_drop_more (fold with_mark a) marks i false l)
      ∙ so_far

  pub mark_below : a * 2 + d ≤ z
  mark_below = omega (arith, mark_more, marks_grow (drop (i + 1) marks) (a * 2 + d))

pub value_below : (marks : List Bool) → mark_value marks < 2 ^ length marks
value_below [] = omega arith
value_below (m ∷ marks) =
    let e : mark_value (m ∷ marks) ≡ id_of marks (0 * 2 + cond m 1 0) = marks_behind marks (0 * 2 + cond m 1 0) in
    let one : (m : Bool) → 0 * 2 + cond m 1 0 ≤ 1 = λ m. elim m as (λ b. 0 * 2 + cond b 1 0 ≤ 1) [ true ↦ omega arith | false ↦ omega arith ] in
    let le = mul-le-mul_right (2 ^ length marks) (one m) in
    omega (arith, e, le, value_below marks, twice_pow (length marks))

-- ---- bits

passed : (b : Bool) (e : Refusal) (rest : Option Refusal) → cond b (Some e) rest ≡ None → (b ≡ false) × (rest ≡ None)
passed true e rest h = let z : ◌≡◌ {A = ℕ} 0 1 = cc in absurd (omega arith)
passed false e rest h = (refl, h)

pub digits_are : (g : ℕ) → g < 2 ^ 64 → Digits g (digits g)
digits_are g h =
    let k = leading_length 64 g h in
    let e : k.0 ≡ digits g = omega (arith, k.1) in
    record {
      hold = subst (λ (m : ℕ). g < 2 ^ m) e k.2;
      needed = λ some.
          let t = leading_top 64 g some h in
          let f : t.0 ≡ digits g - 1 = omega (arith, t.1) in
          subst (λ (m : ℕ). 2 ^ m ≤ g) f t.2;
    }

-- where no question is answered no, the id has 64 bits
pub id_fits : (marks : List Bool) (o g : ℕ) → g < 2 ^ 64 → group_id_fault marks o g ≡ None → id_of marks o < 2 ^ 64
id_fits marks o g h none =
    let a = passed (ltb 64 (length marks)) _ _ none in
    let b = passed (ltb 64 (bits_of marks g)) _ _ a.1 in
    let c = passed (ltb g o) _ _ b.1 in
    let bits = ltb-false 64 (bits_of marks g) b.0 in
    let below : o < 2 ^ digits g = lt_of_le_of_lt (ltb-false g o c.0) (digits_are g h).hold in
    let value : mark_value marks < 2 ^ length marks = value_below marks in
    lt_of_lt_of_le (mul-add-lt o (2 ^ length marks) (mark_value marks) (2 ^ digits g) below value)
    (subst (λ (z : ℕ). z ≤ 2 ^ 64) (pow-add 2 (length marks) (digits g)) (pow_mono bits))
