-- Cells written one behind another, and rows one behind another, stand as one list written at once.
use Rattle.std.proofs.Common.{◌≡◌, ℕ, zero, suc, ◌+◌, ◌-◌, ◌*◌, ◌^◌, ◌<◌, ◌≤◌, min, List, [], ◌∷◌, ◌++◌, map, length, get_or, set, None, sym, refl, ap, ◌∙◌, inl, inr, arith}
use Rattle.std.proofs.lemmas.List.{append-nil, append_assoc, length-append, length-map, map-append, map_push, set_past}
use Rattle.std.proofs.lemmas.Bool.{cases_lt}
use Rattle.cells.specs.Rows.{CellOf, overlaid}
use Rattle.output.specs.Slices.{padded, flat, put_at}
use Rattle.output.proofs.Padding.{padded-push, length-padded}

overlaid-push : {X : Type 0} (xs ys : List X) (x : X) → set (overlaid xs ys) (length xs) x ≡ overlaid (xs ++ x ∷ []) ys
overlaid-push [] [] x = refl
overlaid-push [] (y ∷ ys) x = refl
overlaid-push (z ∷ xs) [] x = refl
overlaid-push {X} (z ∷ xs) (y ∷ ys) x = ap (λ (zs : List X). z ∷ zs) (overlaid-push xs ys x)

pub put_none : {X : Type 0} (start : ℕ) (ys : List X) → put_at start [] ys ≡ ys
put_none zero ys = refl
put_none (suc start) [] = refl
put_none {X} (suc start) (y ∷ ys) = ap (λ (zs : List X). y ∷ zs) (put_none start ys)

put_push : {X : Type 0} (start : ℕ) (xs ys : List X) (x : X) → set (put_at start xs ys) (start + length xs) x ≡ put_at start (xs ++ x ∷ []) ys
put_push zero xs ys x = ap (λ (n : ℕ). set (overlaid xs ys) n x) (omega arith) ∙ overlaid-push xs ys x
put_push (suc start) xs [] x = refl
put_push {X} (suc start) xs (y ∷ ys) x =
    let next : suc start + length xs ≡ suc (start + length xs) = omega arith in
    ap (λ (n : ℕ). set (y ∷ put_at start xs ys) n x) next ∙ ap (λ (zs : List X). y ∷ zs) (put_push start xs ys x)

put_past : {X : Type 0} (start : ℕ) (xs ys : List X) → length ys ≤ start → put_at start xs ys ≡ ys
put_past zero [] ys l = refl
put_past zero (x ∷ xs) [] l = refl
put_past zero (x ∷ xs) (y ∷ ys) l = absurd (omega arith)
put_past (suc start) xs [] l = refl
put_past {X} (suc start) xs (y ∷ ys) l = ap (λ (zs : List X). y ∷ zs) (put_past start xs ys (omega arith))

put_behind : {X : Type 0} (xs zs ys : List X) → put_at (length xs) zs (overlaid xs ys) ≡ overlaid (xs ++ zs) ys
put_behind [] zs ys = refl
put_behind (x ∷ xs) zs [] = refl
put_behind {X} (x ∷ xs) zs (y ∷ ys) = ap (λ (rest : List X). x ∷ rest) (put_behind xs zs ys)

-- a place that was cut to the largest number is past the end, as the true one is
saturated : {Y : Type 0} (at : ℕ → Y) (same : Y) (len k p : ℕ) → ((j : ℕ) → len ≤ j → at j ≡ same)
    → len < 2 ^ 64 → p ≡ min k (2 ^ 64 - 1) → at p ≡ at k
saturated at same len k p past l e = elim (cases_lt k (2 ^ 64 - 1)) [
  | inl less ↦ let k_is : p ≡ k = omega arith in ap at k_is
  | inr more ↦ past p (omega arith) ∙ sym (past k (omega arith))
]

flat-push : (width : ℕ) (rows : List (List CellOf)) (row : List CellOf) → flat width (rows ++ row ∷ []) ≡ flat width rows ++ padded width row
flat-push width [] row = append-nil (padded width row)
flat-push width (r ∷ rows) row =
    ap (λ (cs : List CellOf). padded width r ++ cs) (flat-push width rows row)
    ∙ sym (append_assoc (padded width r) (flat width rows) (padded width row))

length-flat : (width : ℕ) (rows : List (List CellOf)) → length (flat width rows) ≡ length rows * width
length-flat width [] = omega arith
length-flat width (row ∷ rows) =
    omega (arith, length-append (padded width row) (flat width rows), length-padded width row, length-flat width rows)

module _ {X : Type 0} (f : CellOf → X) (ys before after : List X) (short : length before < 2 ^ 64) where
  -- one cell more of a row
  pub cell_written : (row : List CellOf) (start n place : ℕ) (x : X) → before ≡ put_at start (map f (padded n row)) ys
      → place ≡ min (start + n) (2 ^ 64 - 1) → x ≡ f (get_or row n None) → after ≡ set before place x
      → after ≡ put_at start (map f (padded (n + 1) row)) ys
  cell_written row start n place x so_far at is wrote =
      let front = map f (padded n row) in
      let here : start + n ≡ start + length front = omega (arith, length-map (padded n row) f, length-padded n row) in
      let next : suc n ≡ n + 1 = omega arith in
      wrote
      ∙ saturated (λ (j : ℕ). set before j x) before (length before) (start + n) place (λ j l. set_past before j x l) short at
      ∙ ap (λ (zs : List X). set zs (start + n) x) so_far
      ∙ ap (λ (j : ℕ). set (put_at start front ys) j x) here
      ∙ put_push start front ys x
      ∙ ap (λ (y : X). put_at start (front ++ y ∷ []) ys) is
      ∙ ap (λ (zs : List X). put_at start zs ys) (sym (map_push f (padded n row) (get_or row n None)))
      ∙ ap (λ (cs : List CellOf). put_at start (map f cs) ys) (sym (padded-push n row))
      ∙ ap (λ (m : ℕ). put_at start (map f (padded m row)) ys) next

  -- one row more
  pub row_written : (width n start : ℕ) (rows more : List (List CellOf)) (row : List CellOf) → length rows ≡ n → more ≡ rows ++ row ∷ []
      → before ≡ overlaid (map f (flat width rows)) ys → start ≡ min (n * width) (2 ^ 64 - 1)
      → after ≡ put_at start (map f (padded width row)) before
      → after ≡ overlaid (map f (flat width more)) ys
  row_written width n start rows more row count is so_far at wrote =
      let front = map f (flat width rows) in
      let back = map f (padded width row) in
      let here : n * width ≡ length front =
      ap (λ (m : ℕ). m * width) (sym count) ∙ sym (length-map (flat width rows) f ∙ length-flat width rows) in
      wrote
      ∙ saturated (λ (j : ℕ). put_at j back before) before (length before) (n * width) start (λ j l. put_past j back before l) short at
      ∙ ap (λ (zs : List X). put_at (n * width) back zs) so_far
      ∙ ap (λ (j : ℕ). put_at j back (overlaid front ys)) here
      ∙ put_behind front back ys
      ∙ ap (λ (zs : List X). overlaid zs ys) (sym (map-append f (flat width rows) (padded width row)))
      ∙ ap (λ (cs : List CellOf). overlaid (map f cs) ys) (sym (flat-push width rows row) ∙ ap (flat width) (sym is))
