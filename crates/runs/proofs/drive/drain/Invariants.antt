use Rattle.std.proofs.Common.{◌≡◌, ◌+◌, ◌≤◌, List, map, length, take, vec_items, vec_len, vec_capacity}
use Rattle.runs.specs.Noted.{Noted, LeadsNoting}
use Rattle.stream.specs.Streams.{model_of, setup_in, memory_of}
use Rattle.runs.specs.Scripts.{take_of, slices, tells}
use Rattle.runs.specs.Ran.{Walked}
use Rattle.runs.proofs.drive.drain.Given as goal

abbrev pub invariant-loop-out : goal.invariant-loop-out
invariant-loop-out g l =
    let u = setup_in l.initial.stream.stream in
    let w = memory_of l.initial.stream.stream in
    (l.out-index ≤ length l.takes)
    × (l.stream.stream.plan ≡ l.initial.stream.stream.plan)
    × (map take_of l.takes ≡ map take_of l.initial.takes)
    × (vec_len l.replies ≡ vec_len l.initial.replies + l.out-index)
    × (vec_capacity l.replies ≡ vec_capacity l.initial.replies)
    × ((h : List Noted) → LeadsNoting u w h (model_of l.initial.stream.stream) l.initial.stream.stream.reservation
    → Walked u w h (take l.out-index (map take_of l.initial.takes)) (map slices l.initial.takes) (map slices l.takes) (map tells (vec_items l.initial.replies)) (map tells (vec_items l.replies))
    (model_of l.stream.stream) l.stream.stream.reservation)
