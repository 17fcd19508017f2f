-- Where a cell of a row stands.
use Rattle.std.proofs.Common.{◌≡◌, ℕ, zero, suc, ◌+◌, ◌*◌, ◌<◌, ◌≤◌, List, [], ◌∷◌, length, get_or, take, drop, ℤ, pos, None, refl, ap, ◌∙◌, arith}
use Rattle.std.proofs.lemmas.List.{get_or-take, get_or-drop, get_or_past, length-take}
use Rattle.std.proofs.Math.Nat.{mul-le-mul_right}
use Rattle.cells.specs.Rows.{CellOf, cell_of, cells_of, rows_of}

pub cells_at : (vs : List ℤ) (fs : List ℕ) (k : ℕ) (v : ℤ) (f : ℕ) → k < length vs → k < length fs
    → get_or (cells_of vs fs) k None ≡ cell_of (get_or vs k v) (get_or fs k f)
cells_at [] fs k v f p q = absurd (omega arith)
cells_at (x ∷ vs) [] k v f p q = absurd (omega arith)
cells_at (x ∷ vs) (y ∷ fs) zero v f p q = refl
cells_at (x ∷ vs) (y ∷ fs) (suc k) v f p q = cells_at vs fs k v f (omega arith) (omega arith)

pub length-rows : (n C : ℕ) (cells : List CellOf) → length (rows_of n C cells) ≡ n
length-rows zero C cells = refl
length-rows (suc n) C cells = ap suc (length-rows n C (drop C cells))

pub row_past : (n C : ℕ) (cells : List CellOf) (r c : ℕ) → n ≤ r → get_or (get_or (rows_of n C cells) r []) c None ≡ None
row_past n C cells r c p =
    ap (λ (row : List CellOf). get_or row c None) (get_or_past (rows_of n C cells) r [] (omega (arith, length-rows n C cells)))

pub column_past : (n C : ℕ) (cells : List CellOf) (r c : ℕ) → C ≤ c → get_or (get_or (rows_of n C cells) r []) c None ≡ None
column_past zero C cells r c p = refl
column_past (suc n) C cells zero c p = get_or_past (take C cells) c None (omega (arith, length-take C cells))
column_past (suc n) C cells (suc r) c p = column_past n C (drop C cells) r c p

-- cell c of row r stands at r * C + c
pub cell_at : (n C : ℕ) (cells : List CellOf) (r c : ℕ) → r < n → c < C
    → get_or (get_or (rows_of n C cells) r []) c None ≡ get_or cells (r * C + c) None
cell_at zero C cells r c p q = absurd (omega arith)
cell_at (suc n) C cells zero c p q = get_or-take C cells c None q ∙ ap (λ (k : ℕ). get_or cells k None) (omega arith)
cell_at (suc n) C cells (suc r) c p q =
    cell_at n C (drop C cells) r c (omega arith) q
    ∙ get_or-drop C cells (r * C + c) None
    ∙ ap (λ (k : ℕ). get_or cells k None) (omega arith)

module _ (n C : ℕ) (vs : List ℤ) (fs : List ℕ) (whole : length vs ≡ n * C) (even : length fs ≡ n * C) (r c : ℕ) (p : r < n) (q : c < C) where
  place-lt : r * C + c < n * C
  place-lt =
      let next : suc r * C ≤ n * C = mul-le-mul_right C p in
      omega (arith, next)

  -- what stands there is the value, where its flag is 1
  pub cell_is : get_or (get_or (rows_of n C (cells_of vs fs)) r []) c None ≡ cell_of (get_or vs (r * C + c) (pos 0)) (get_or fs (r * C + c) 0)
  cell_is =
      cell_at n C (cells_of vs fs) r c p q
      ∙ cells_at vs fs (r * C + c) (pos 0) 0 (omega (arith, place-lt, whole)) (omega (arith, place-lt, even))
