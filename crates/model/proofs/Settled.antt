-- No two of the sets that are asked for have the same id.
use Rattle.std.proofs.Common.{◌≡◌, ℕ, true, [], ◌∷◌, length, get_or, pos, Some, sym, ◌∙◌, inl, inr, arith}
use Rattle.std.proofs.lemmas.List.FromFn.{length-map-range_with_len}
use Rattle.std.proofs.lemmas.Bool.{cases_Bool, cond-true}
use Rattle.cells.specs.Rows.{CellOf}
use Rattle.group_by.specs.Groupings.{GroupBy}
use Rattle.group_by.specs.Sets.{ids, id_at}
use Rattle.model.specs.Setups.{Setup}
use Rattle.model.specs.Law.{Sensible}
use Rattle.model.proofs.Asked.{plain_set, over}
use Rattle.model.proofs.Owning.{SetsApart}

module _ {S : Type 0} (u : Setup S) (fine : Sensible u) where
  abbrev gb : GroupBy
  gb = u.settings.group_by

  pub sets_apart : SetsApart u
  sets_apart i j l h e = elim (cases_Bool gb.grouped) [
    | inl several ↦
        let cell : ℕ → CellOf = λ s. Some (get_or (ids gb.sets) s (pos 0)) in
        let same : cell i ∷ [] ≡ cell j ∷ [] =
        sym (cond-true gb.grouped (cell i ∷ []) [] several) ∙ e ∙ cond-true gb.grouped (cell j ∷ []) [] several in
        let equal : get_or (ids gb.sets) i (pos 0) ≡ get_or (ids gb.sets) j (pos 0) = cc in
        fine.numbered several (length gb.columns) (over u true fine.asked several) i j (pos 0) l
        (omega (arith, length-map-range_with_len (id_at gb.sets) 0 (length gb.sets))) equal
    | inr alone ↦ omega (arith, plain_set u true fine.asked alone)
  ]
