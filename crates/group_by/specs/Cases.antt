-- Group ids that were worked out by hand. Assumes nothing.
use Rattle.std.specs.Prelude.{◌≡◌, ◌-◌, ◌^◌, true, false, [], ◌∷◌, replicate, Ok, Err}
use Rattle.cells.specs.Refusals.{refusal}
use Rattle.group_by.specs.Ids.{group_id}

pub record GroupIdCases : Type 0 where
  pub alone : group_id (false ∷ true ∷ true ∷ []) 0 0 ≡ Ok (3, 8)
  pub second : group_id (false ∷ true ∷ true ∷ []) 1 1 ≡ Ok (11, 8)
  pub widest : group_id (replicate 64 true) 0 0 ≡ Ok (2 ^ 64 - 1, 64)
  pub too_wide : group_id (replicate 64 true) 0 1 ≡ Err (refusal 17 [])
