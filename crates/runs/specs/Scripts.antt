-- What the calls of a script ask, what their slices hold, and what a reply tells. Assumes nothing.
use Rattle.std.specs.Prelude.{ℕ, Bool, List, [], ◌∷◌, ◌++◌, map, length, ℤ, Some, None, vec_items, Option, Vec}
use Rattle.std.specs.declared.alloc.Global.{Global}
use Rattle.cells.specs.Rows.{CellOf, overlaid}
use Rattle.output.specs.Slices.{value_of, flag_of, flat}
use Rattle.model.specs.Steps as steps
use Rattle.model.specs.Steps.{Request, offer, take, finish, closed}
use Rattle.runs.specs.Noted.{Noted}
use Rattle.stream.specs.Refusals.{offer_answer, take_answer}
use Rattle.runs.specs.declared.script.Answer.{Answer}
use Rattle.runs.specs.declared.script.Answer.TheVariants.{Offered, Took, Finished}
use Rattle.runs.specs.declared.script.Buffers.{Buffers}
use Rattle.runs.specs.declared.script.Call.{Call}
use Rattle.runs.specs.declared.script.Call.TheVariants.{Offer, Take}
use Rattle.runs.specs.declared.script.Reply.{Reply}
use Rattle.runs.specs.declared.script.Script.{Script}

-- ---- calls

abbrev pub take_of : Buffers → Request
take_of b = take (length (vec_items b.values)) (length (vec_items b.flags))

abbrev pub request_of : Call → Request
request_of (Offer b) = offer (vec_items b.values) (vec_items b.flags)
request_of (Take b) = take_of b

-- what the two slices of a call hold
abbrev pub slices : Buffers → List ℤ × List ℕ
slices b = (vec_items b.values, vec_items b.flags)

abbrev pub call_slices : Call → List ℤ × List ℕ
call_slices (Offer b) = slices b
call_slices (Take b) = slices b

-- what follows the calls of a stream that reads: finish, which has no slices, and takes
abbrev pub closing_requests : Option (Vec Buffers Global) → List Request
closing_requests None = []
closing_requests (Some takes) = finish ∷ map take_of (vec_items takes)

abbrev pub closing_slices : Option (Vec Buffers Global) → List (List ℤ × List ℕ)
closing_slices None = []
closing_slices (Some takes) = ([], []) ∷ map slices (vec_items takes)

abbrev pub requests_of : Script → List Request
requests_of s = map request_of (vec_items s.reading) ++ closing_requests s.closing

abbrev pub slices_of : Script → List (List ℤ × List ℕ)
slices_of s = map call_slices (vec_items s.reading) ++ closing_slices s.closing

-- ---- replies

abbrev pub answer_of : Answer → steps.Answer
answer_of (Offered res) = offer_answer res
answer_of (Took res) = take_answer res
answer_of Finished = closed

-- an answer, the bytes reserved after it, and the reservation's last answer
abbrev pub tells : Reply → steps.Answer × ℕ × Bool
tells p = (answer_of p.answer, p.bytes, p.granted)

-- ---- events

abbrev pub told : Noted → steps.Answer × ℕ × Bool
told e = (e.answer, e.bytes, e.granted)

-- the oldest first
abbrev pub in_order : List Noted → List Noted
in_order [] = []
in_order (e ∷ h) = in_order h ++ e ∷ []

-- what a call leaves in its slices: the rows handed out at the front, and what lay behind them
abbrev pub written : ℕ → List (List CellOf) → List ℤ × List ℕ → List ℤ × List ℕ
written width rows s = (overlaid (map value_of (flat width rows)) s.0, overlaid (map flag_of (flat width rows)) s.1)

-- each event in the slices of its call; those of calls that were not made are as they were
abbrev pub written_all : ℕ → List Noted → List (List ℤ × List ℕ) → List (List ℤ × List ℕ)
written_all width [] ss = ss
written_all width (e ∷ es) [] = []
written_all width (e ∷ es) (s ∷ ss) = written width e.out s ∷ written_all width es ss
