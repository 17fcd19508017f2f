-- The cells of a key, pushed one by one.
use Rattle.std.proofs.Common.{◌≡◌, ℕ, zero, suc, ◌+◌, ◌<◌, Bool, false, cond, List, [], ◌∷◌, ◌++◌, length, get_or, take, ℤ, Some, None, sym, refl, ap, ◌∙◌, add-one, arith}
use Rattle.cells.specs.Rows.{CellOf}
use Rattle.cells.proofs.Pushing.{pushed}
use Rattle.group_by.specs.declared.keys.GroupByKeys.{GroupByKeys}
use Rattle.group_by.specs.Groupings.{masked_cells, id_cells}
use Rattle.group_by.specs.Keys.{keys_of}

masked_more : (columns : List ℕ) (marks : List Bool) (row : List CellOf) (i : ℕ) → i < length columns
    → masked_cells (take (suc i) columns) marks row
    ≡ masked_cells (take i columns) marks row ++ cond (get_or marks i false) None (get_or row (get_or columns i 0) None) ∷ []
masked_more [] marks row i l = absurd (omega arith)
masked_more (c ∷ columns) [] row zero l = refl
masked_more (c ∷ columns) (m ∷ marks) row zero l = refl
masked_more (c ∷ columns) [] row (suc i) l =
    ap (λ (cells : List CellOf). get_or row c None ∷ cells) (masked_more columns [] row i (omega arith))
masked_more (c ∷ columns) (m ∷ marks) row (suc i) l =
    ap (λ (cells : List CellOf). cond m None (get_or row c None) ∷ cells) (masked_more columns marks row i (omega arith))

pub cell_more : (columns : List ℕ) (marks : List Bool) (row : List CellOf) (i : ℕ) (m : Bool) (cell : CellOf) (key key' : List CellOf)
    → i < length columns → m ≡ get_or marks i false → cell ≡ cond m None (get_or row (get_or columns i 0) None)
    → key ≡ take 7 (masked_cells (take i columns) marks row) → key' ≡ take 7 (key ++ cell ∷ [])
    → key' ≡ take 7 (masked_cells (take (i + 1) columns) marks row)
cell_more columns marks row i m cell key key' l mark is e h =
    pushed 7 (masked_cells (take i columns) marks row) (cell ∷ []) key key' e h
    ∙ ap (λ (c : CellOf). take 7 (masked_cells (take i columns) marks row ++ c ∷ [])) (is ∙ ap (λ (b : Bool). cond b None (get_or row (get_or columns i 0) None)) mark)
    ∙ ap (take 7) (sym (masked_more columns marks row i l))
    ∙ ap (λ (n : ℕ). take 7 (masked_cells (take n columns) marks row)) (sym (add-one i))

-- an id that is pushed last ends the key
pub id_behind : (k : GroupByKeys) (s : ℕ) (id : ℤ) (cells key key' : List CellOf) → id_cells (keys_of k) s ≡ Some id ∷ []
    → key ≡ take 7 cells → key' ≡ take 7 (key ++ Some id ∷ []) → key' ≡ take 7 (cells ++ id_cells (keys_of k) s)
id_behind k s id cells key key' is e h =
    pushed 7 cells (Some id ∷ []) key key' e h ∙ ap (λ (last : List CellOf). take 7 (cells ++ last)) (sym is)
