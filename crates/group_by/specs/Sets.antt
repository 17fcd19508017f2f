-- The ids of a list of grouping sets. Assumes nothing.
use Rattle.std.specs.Prelude.{◌≡◌, ℕ, ◌<◌, max, Bool, true, false, ◌&&◌, List, [], ◌∷◌, map, length, take, ℤ, Some, None, Ok, Err, vec_items, fold, count_by, Option, Result, Vec, slice_index_or}
use Rattle.std.specs.Bool.{beq}
use Rattle.std.specs.Int.{w64}
use Rattle.std.proofs.Common.{to_z}
use Rattle.std.specs.List.{range_with_len}
use Rattle.std.specs.declared.alloc.Global.{Global}
use Rattle.cells.specs.Refusals.{Refusal}
use Rattle.group_by.specs.declared.grouping_sets.GroupByFault.{GroupByFault}
use Rattle.group_by.specs.declared.grouping_sets.GroupByFault.TheVariants.{Id, Memory}
use Rattle.group_by.specs.Counts.{Distinct}
use Rattle.group_by.specs.Ids.{group_id_refusal, group_id_fault, id_of}

abbrev pub sets_of : List (Vec Bool Global) → List (List Bool)
sets_of groups = map vec_items groups

abbrev pub same_marks : List Bool → List Bool → Bool
same_marks [] [] = true
same_marks [] (y ∷ ys) = false
same_marks (x ∷ xs) [] = false
same_marks (x ∷ xs) (y ∷ ys) = beq x y && same_marks xs ys

-- how many sets before the i-th equal it
abbrev pub ordinal_of : List (List Bool) → ℕ → ℕ
ordinal_of sets i = count_by (λ s. same_marks s (slice_index_or sets i [])) (take i sets)

-- what f says of each set, in order
abbrev pub for_each : {X : Type 0} → List (List Bool) → (ℕ → X) → List X
for_each sets f = map f (range_with_len 0 (length sets))

abbrev pub greatest_ordinal : List (List Bool) → ℕ
greatest_ordinal sets = fold max 0 (for_each sets (ordinal_of sets))

-- the 64 bits of the i-th set's id, read as signed
abbrev pub id_at : List (List Bool) → ℕ → ℤ
id_at sets i = to_z w64 (id_of (slice_index_or sets i []) (ordinal_of sets i))

abbrev pub ids : List (List Bool) → List ℤ
ids sets = for_each sets (id_at sets)

abbrev pub fault_at : List (List Bool) → ℕ → Option Refusal
fault_at sets i = group_id_fault (slice_index_or sets i []) (ordinal_of sets i) (greatest_ordinal sets)

abbrev pub first_some : {X : Type 0} → List (Option X) → Option X
first_some [] = None
first_some (None ∷ os) = first_some os
first_some (Some x ∷ os) = Some x

-- the refusal of the first set that has no id
abbrev pub sets_fault : List (List Bool) → Option Refusal
sets_fault sets = first_some (for_each sets (fault_at sets))

-- each set has n marks
abbrev pub Over : ℕ → List (List Bool) → Type 0
Over n sets = (i : ℕ) → i < length sets → length (slice_index_or sets i []) ≡ n

-- over one number of columns no two sets have the same id
abbrev pub IdsDiffer : List (List Bool) → Type 0
IdsDiffer sets = (n : ℕ) → Over n sets → Distinct (ids sets)

-- the ids of the sets, or why there are none; memory is asked for once every set has an id
abbrev pub HasIds : List (List Bool) → Result (Vec ℤ Global) GroupByFault → Type 0
HasIds sets (Ok v) = (sets_fault sets ≡ None) × (vec_items v ≡ ids sets) × IdsDiffer sets
HasIds sets (Err (Id e)) = sets_fault sets ≡ Some (group_id_refusal e)
HasIds sets (Err Memory) = sets_fault sets ≡ None
