-- An array whose places behind the cells are absent: one cell more in it, and cells written over its front.
use Rattle.std.proofs.Common.{◌≡◌, ℕ, suc, ◌-◌, ◌<◌, ◌≤◌, List, [], ◌∷◌, ◌++◌, length, take, drop, set, replicate, None, sym, ap, ◌∙◌, arith, append_assoc, length-append, length-drop}
use Rattle.std.proofs.Math.Seq.{set-append_seam}
use Rattle.std.proofs.lemmas.List.{length_push, length-replicate, drop-replicate, take-append-le, take_all}
use Rattle.cells.specs.Rows.{CellOf}
use Rattle.cells.specs.Filled.{filled}

pub filled_more : (n : ℕ) (xs : List CellOf) (x : CellOf) → length xs < n → set (filled n xs) (length xs) x ≡ filled n (xs ++ x ∷ [])
filled_more n xs x l =
    let rest = n - length (xs ++ x ∷ []) in
    let e : n - length xs ≡ suc rest = omega (arith, length_push xs x) in
    ap (λ (k : ℕ). set (xs ++ replicate k None) (length xs) x) e
    ∙ set-append_seam xs None (replicate rest None) x
    ∙ sym (append_assoc xs (x ∷ []) (replicate rest None))

-- an array of absent cells, with cells written over its front
module _ (n k : ℕ) (xs : List CellOf) (whole : length xs ≡ k) (within : k ≤ n) where
  abbrev pub over_absent : List CellOf
  over_absent = xs ++ drop k (replicate n None)

  front_is : take k over_absent ≡ xs
  front_is = take-append-le k xs (drop k (replicate n None)) (omega (arith, whole)) ∙ take_all k xs (omega (arith, whole))

  pub filled_front : (k ≤ n) × (length over_absent ≡ n) × (over_absent ≡ filled n (take k over_absent))
  filled_front =
      let absent = replicate {A = CellOf} n None in
      let size = length-replicate {A = CellOf} n None in
      let behind = ap (λ (r : List CellOf). xs ++ r) (drop-replicate k n None) in
      let same = ap (λ (m : ℕ). xs ++ replicate (n - m) None) (sym whole) in (
        within,
        length-append xs (drop k absent) ∙ omega (arith, whole, within, length-drop k absent, size),
        behind ∙ same ∙ sym (ap (filled n) front_is),
      )
