-- The number and the values of each refusal, and the answers that results stand for. Assumes nothing.
use Rattle.std.specs.Prelude.{ℕ, [], ◌∷◌, Some, None, Ok, Err, Option, Result}
use Rattle.cells.specs.Refusals.{Refusal, refusal, batch_refusal}
use Rattle.model.specs.Steps.{Answer, accepted, refused, handed, nothing}
use Rattle.stream.specs.declared.faults.OfferFault.{OfferFault}
use Rattle.stream.specs.declared.faults.OfferFault.TheVariants.{Ended, RowsWait, Batch, TooManyRows, NotAdmitted, TooManyGroups, NoMemory}
use Rattle.stream.specs.declared.faults.TakeFault.{TakeFault}
use Rattle.stream.specs.declared.faults.TakeFault.TheVariants.{Short}

abbrev pub offer_refusal : OfferFault → Refusal
offer_refusal Ended = refusal 7 []
offer_refusal RowsWait = refusal 8 []
offer_refusal (Batch e) = batch_refusal e
offer_refusal TooManyRows = refusal 11 []
offer_refusal (NotAdmitted row set) = refusal 12 (row ∷ set ∷ [])
offer_refusal TooManyGroups = refusal 13 []
offer_refusal NoMemory = refusal 14 []

abbrev pub take_refusal : TakeFault → Refusal
take_refusal Short = refusal 15 []

abbrev pub offer_answer : Result (Unit {0}) OfferFault → Answer
offer_answer (Ok x) = accepted
offer_answer (Err e) = refused (offer_refusal e)

abbrev pub offer_fault_of : Result (Unit {0}) OfferFault → Option Refusal
offer_fault_of (Ok x) = None
offer_fault_of (Err e) = Some (offer_refusal e)

-- P holds where an offer is refused, but for want of memory, which comes after the batch was accepted
abbrev pub UnlessNoMemory : Result (Unit {0}) OfferFault → Type 0 → Type 0
UnlessNoMemory (Ok x) P = Unit {0}
UnlessNoMemory (Err Ended) P = P
UnlessNoMemory (Err RowsWait) P = P
UnlessNoMemory (Err (Batch e)) P = P
UnlessNoMemory (Err TooManyRows) P = P
UnlessNoMemory (Err (NotAdmitted row set)) P = P
UnlessNoMemory (Err TooManyGroups) P = P
UnlessNoMemory (Err NoMemory) P = Unit {0}

-- P holds where a take hands nothing out
abbrev pub UnlessHanded : Result (Option ℕ) TakeFault → Type 0 → Type 0
UnlessHanded (Ok (Some n)) P = Unit {0}
UnlessHanded (Ok None) P = P
UnlessHanded (Err e) P = P

abbrev pub take_answer : Result (Option ℕ) TakeFault → Answer
take_answer (Ok (Some n)) = handed n
take_answer (Ok None) = nothing
take_answer (Err e) = refused (take_refusal e)
