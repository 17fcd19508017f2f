use Rattle.std.proofs.Common.{◌≡◌, ◌+◌, ◌≤◌, false, List, map, length, take, vec_items, vec_len, vec_capacity}
use Rattle.runs.specs.Noted.{Noted, LeadsNoting}
use Rattle.stream.specs.Streams.{model_of, setup_in, memory_of}
use Rattle.runs.specs.Scripts.{request_of, call_slices, tells}
use Rattle.runs.specs.Ran.{Walked}
use Rattle.runs.proofs.drive.read.Given as goal

abbrev pub invariant-loop-call : goal.invariant-loop-call
invariant-loop-call g l =
    let u = setup_in l.initial.stream in
    let w = memory_of l.initial.stream in
    (l.call-index ≤ length l.calls)
    × (l.stream.plan ≡ l.initial.stream.plan)
    × (l.stream.closing ≡ l.initial.stream.closing)
    × (map request_of l.calls ≡ map request_of l.initial.calls)
    × (vec_len l.replies ≡ vec_len l.initial.replies + l.call-index)
    × (vec_capacity l.replies ≡ vec_capacity l.initial.replies)
    × ((h : List Noted) → LeadsNoting u w h (model_of l.initial.stream) l.initial.stream.reservation
    → l.initial.stream.closing ≡ false
    → Walked u w h (take l.call-index (map request_of l.initial.calls)) (map call_slices l.initial.calls) (map call_slices l.calls) (map tells (vec_items l.initial.replies)) (map tells (vec_items l.replies))
    (model_of l.stream) l.stream.reservation)
