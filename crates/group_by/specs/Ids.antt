-- The id of a grouping set: its ordinal above its marks. Assumes nothing.
use Rattle.std.specs.Prelude.{ℕ, ◌+◌, ◌*◌, ◌^◌, Bool, cond, List, [], length, Some, None, Ok, Err, Option, Result, nat_lt}
use Rattle.cells.specs.Refusals.{Refusal, refusal}
use Rattle.group_by.specs.declared.group_id.GroupIdFault.{GroupIdFault}
use Rattle.group_by.specs.declared.group_id.GroupIdFault.TheVariants.{TooManyColumns, TooManyBits, OrdinalPastGreatest}
use Rattle.group_by.specs.Marks.{mark_value, digits, width_of}

abbrev pub group_id_refusal : GroupIdFault → Refusal
group_id_refusal TooManyColumns = refusal 16 []
group_id_refusal TooManyBits = refusal 17 []
group_id_refusal OrdinalPastGreatest = refusal 18 []

-- the bits of the marks and of the greatest ordinal
abbrev pub bits_of : List Bool → ℕ → ℕ
bits_of marks greatest = length marks + digits greatest

-- the first of the three questions that is answered no
abbrev pub group_id_fault : List Bool → ℕ → ℕ → Option Refusal
group_id_fault marks ordinal greatest =
    cond (nat_lt 64 (length marks)) (Some (refusal 16 []))
    (cond (nat_lt 64 (bits_of marks greatest)) (Some (refusal 17 [])) (cond (nat_lt greatest ordinal) (Some (refusal 18 [])) None))

abbrev pub id_of : List Bool → ℕ → ℕ
id_of marks ordinal = ordinal * 2 ^ length marks + mark_value marks

abbrev pub unless : {X : Type 0} → Option Refusal → X → Result X Refusal
unless None x = Ok x
unless (Some e) x = Err e

-- the id and its width, or the refusal
abbrev pub group_id : List Bool → ℕ → ℕ → Result (ℕ × ℕ) Refusal
group_id marks ordinal greatest =
    unless (group_id_fault marks ordinal greatest) (id_of marks ordinal, width_of (bits_of marks greatest))

-- an answer, its fault read as a refusal
abbrev pub told : {X : Type 0} → Result X GroupIdFault → Result X Refusal
told (Ok x) = Ok x
told (Err e) = Err (group_id_refusal e)

-- the refusal of an answer, if it is one
abbrev pub refusal_of : {X : Type 0} → Result X GroupIdFault → Option Refusal
refusal_of (Ok x) = None
refusal_of (Err e) = Some (group_id_refusal e)
