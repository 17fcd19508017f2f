use Rattle.std.proofs.Common.{◌≡◌, ℕ, Bool, List, cond, [], ◌∷◌, ◌++◌, get_or, take, ℤ, Some, None, sym, ap, ◌∙◌, w64, SFits, rules}
use Rattle.std.proofs.lemmas.Int.{to_z-of_z}
use Rattle.std.proofs.lemmas.List.{take_all}
use Rattle.cells.specs.Rows.{CellOf}
use Rattle.cells.specs.Views.{view_rows}
use Rattle.group_by.specs.Groupings.{masked_cells}
use Rattle.group_by.specs.Keys.{keys_of}
use Rattle.group_by.proofs.KeyCells.{cell_more, id_behind}
use Rattle.group_by.proofs.keys.GroupByKeys.evaluate_group_by.Goals as goal
use Rattle.group_by.proofs.keys.GroupByKeys.evaluate_group_by.Goals.{then-is_masked, else-is_masked}

pub loop-place-preserved : goal.loop-place-preserved
loop-place-preserved c =
    let columns = c.deref-column-items.result.now in
    let row = get_or (view_rows c.args.batch.now) c.args.row [] in
    let i = c.loop-place.place in
    let is : c.if-is_masked.cell ≡ cond c.is_masked.result None (get_or row (get_or columns i 0) None) =
    elim c.if-is_masked.branch [
      | then-is_masked w ↦ w.cell-is ∙ ap (λ (b : Bool). cond b None (get_or row (get_or columns i 0) None)) (sym w.if-is_masked.true)
      | else-is_masked w ↦
          w.cell-is ∙ w.cell-cell.ensures ∙ ap (λ (b : Bool). cond b None (get_or row (get_or columns i 0) None)) (sym w.if-is_masked.false)
    ] in
    cell_more columns (get_or (keys_of c.args.self.now).sets c.args.set []) row i c.is_masked.result c.if-is_masked.cell c.loop-place.key c.push.new.self c.loop-place-test.true c.is_masked.ensures is c.loop-place.invariant c.push.ensures

pub returns-in-Some : goal.returns-in-Some
returns-in-Some c =
    let k = c.args.self.now in
    let cells : List ℕ → List CellOf = λ columns. masked_cells columns (get_or (keys_of k).sets c.args.set []) (get_or (view_rows c.args.batch.now) c.args.row []) in
    let all = take_all c.loop-place.place c.deref-column-items.result.now c.loop-place-test.false in
    let so_far = c.loop-place.invariant ∙ ap (λ (columns : List ℕ). take 7 (cells columns)) (all ∙ c.deref-column-items.ensures.value) in
    let key = c.loop-place.key in
    let f : SFits w64 c.in-Some.id = search rules in
    let last = c.push-in-Some.ensures ∙ ap (λ (z : ℤ). take 7 (key ++ Some z ∷ [])) (to_z-of_z w64 c.in-Some.id f) in
    id_behind k c.args.set c.in-Some.id (cells (keys_of k).columns) key c.push-in-Some.new.self c.in-Some.ensures so_far last
