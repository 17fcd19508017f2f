use Rattle.std.proofs.Common.{false, get_or, refl, arith}
use mir.Val.{bool_byte}
use Rattle.group_by.specs.Ids.{id_of}
use Rattle.group_by.proofs.Numbers.{marks_behind, mark_below}
use Rattle.group_by.proofs.group_id.full_id.Goals as goal

pub loop-masked-init : goal.loop-masked-init
loop-masked-init c = marks_behind c.args.group.now c.args.ordinal

pub overflow_mul-id : goal.overflow_mul-id
overflow_mul-id c =
    let marks = c.args.group.now in
    let d = bool_byte (get_or marks c.loop-masked.masked-index false) in
    omega (arith, mark_below marks c.loop-masked.masked-index c.loop-masked.id d (id_of marks c.args.ordinal) c.loop-masked-test.true refl c.loop-masked.invariant)

pub overflow_add-id : goal.overflow_add-id
overflow_add-id c =
    let marks = c.args.group.now in
    omega (arith, mark_below marks c.loop-masked.masked-index c.loop-masked.id c.from.result (id_of marks c.args.ordinal) c.loop-masked-test.true c.from.ensures c.loop-masked.invariant)
