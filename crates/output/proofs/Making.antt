-- A row is made of a key and, behind it, of what a writer put into the part that it was lent.
use Rattle.std.proofs.Common.{◌≡◌, ℕ, ◌+◌, ◌-◌, ◌^◌, ◌≤◌, min, List, [], ◌∷◌, ◌++◌, length, take, drop, replicate, None, sym, refl, ap, ◌∙◌, inl, inr, arith}
use borrow.Rule.Slice.PartMut.{put_mid, Post-is}
use Rattle.std.proofs.lemmas.List.{append_assoc, length-append, length-replicate, take-replicate, drop-replicate, drop_at, take_at, take_all}
use Rattle.std.proofs.lemmas.Bool.{cases_lt}
use Rattle.cells.specs.Rows.{CellOf, overlaid}

pub overlaid-long : {X : Type 0} (xs ys : List X) → length xs ≤ length ys → overlaid xs ys ≡ xs ++ drop (length xs) ys
overlaid-long [] ys l = refl
overlaid-long (x ∷ xs) [] l = absurd (omega arith)
overlaid-long {X} (x ∷ xs) (y ∷ ys) l = ap (λ (zs : List X). x ∷ zs) (overlaid-long xs ys (omega arith))

overlaid-short : {X : Type 0} (xs ys : List X) → length ys ≤ length xs → overlaid xs ys ≡ take (length ys) xs
overlaid-short [] [] l = refl
overlaid-short [] (y ∷ ys) l = absurd (omega arith)
overlaid-short (x ∷ xs) [] l = refl
overlaid-short {X} (x ∷ xs) (y ∷ ys) l = ap (λ (zs : List X). x ∷ zs) (overlaid-short xs ys (omega arith))

-- a row that holds a key of k cells, and behind it n places that are lent
module _ (key row : List CellOf) (k n : ℕ) (at : k ≡ length key) (short : k ≤ 7) (few : n ≤ 8) (is : row ≡ overlaid key (replicate 15 None)) where
  front : row ≡ key ++ replicate (15 - k) None
  front =
      let absent : CellOf = None in
      is ∙ overlaid-long key (replicate 15 None) (omega (arith, length-replicate 15 absent))
      ∙ ap (λ (j : ℕ). key ++ drop j (replicate 15 None)) (sym at)
      ∙ ap (λ (cells : List CellOf). key ++ cells) (drop-replicate k 15 None)

  -- absent cells are lent
  pub lent : take (k + n - k) (drop k row) ≡ replicate n None
  lent =
      let size : k + n - k ≡ n = omega arith in
      ap (λ (j : ℕ). take j (drop k row)) size
      ∙ ap (λ (cells : List CellOf). take n (drop k cells)) front
      ∙ ap (take n) (drop_at key (replicate (15 - k) None) k (sym at))
      ∙ take-replicate n (15 - k) None (omega arith)

  -- what was written stands behind the key
  pub made : (part : List CellOf) → length part ≡ n → take 15 (take (k + n) (put_mid k (k + n - k) row part)) ≡ key ++ part
  made part size =
      let whole : put_mid k (k + n - k) row part ≡ key ++ (part ++ drop (k + n) row) =
      ap (λ (cs : List CellOf). take k row ++ (part ++ cs)) (Post-is k (k + n) row (omega arith))
      ∙ ap (λ (cs : List CellOf). cs ++ (part ++ drop (k + n) row)) (ap (take k) front ∙ take_at key (replicate (15 - k) None) k (sym at)) in
      let cut : take (k + n) (put_mid k (k + n - k) row part) ≡ key ++ part =
      ap (take (k + n)) (whole ∙ sym (append_assoc key part (drop (k + n) row)))
      ∙ take_at (key ++ part) (drop (k + n) row) (k + n) (omega (arith, length-append key part)) in
      ap (take 15) cut ∙ take_all 15 (key ++ part) (omega (arith, length-append key part))

-- what is shown, written over eight absent cells or fewer, is its first eight cells
pub shown_first : (shown : List CellOf) (all : ℕ) → all ≡ min (length shown) (2 ^ 64 - 1)
    → overlaid shown (replicate (min all 8) None) ≡ take 8 shown
shown_first shown all read =
    let absent : CellOf = None in
    let size = length-replicate (min all 8) absent in
    overlaid-short shown (replicate (min all 8) None) (omega (arith, size))
    ∙ ap (λ (j : ℕ). take j shown) size
    ∙ elim (cases_lt (length shown) 8) [
      | inl less ↦
          let whole : min all 8 ≡ length shown = omega arith in
          ap (λ (j : ℕ). take j shown) whole ∙ take_all (length shown) shown (omega arith) ∙ sym (take_all 8 shown (omega arith))
      | inr more ↦ let eight : min all 8 ≡ 8 = omega arith in ap (λ (j : ℕ). take j shown) eight
    ]
