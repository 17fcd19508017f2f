use Rattle.std.proofs.Common.{◌≡◌, drop, fold}
use Rattle.group_by.specs.Marks.{with_mark}
use Rattle.group_by.specs.Ids.{id_of}
use Rattle.group_by.proofs.group_id.full_id.Given as goal

-- The marks that are left complete the id.
abbrev pub invariant-loop-masked : goal.invariant-loop-masked
invariant-loop-masked l = fold with_mark l.id (drop l.masked-index l.group) ≡ id_of l.group l.ordinal
