-- The questions before an offer, and the run that a call goes on with.
use Rattle.std.proofs.Common.{◌≡◌, ℕ, ◌+◌, ◌^◌, ◌≤◌, Bool, true, false, cond, leb, List, [], ◌∷◌, length, ℤ, Some, None, Ok, Err, Option, Result, sym, refl, ap, ◌∙◌}
use Rattle.std.proofs.lemmas.Bool.{leb-true}
use Rattle.cells.specs.Rows.{CellOf}
use Rattle.cells.specs.Refusals.{Refusal, refusal}
use Rattle.cells.specs.Faults.{batch_fault}
use Rattle.cells.specs.Views.{rows_in}
use Rattle.memory.specs.Resizes.{Resized}
use Rattle.model.specs.Setups.{Setup}
use Rattle.model.specs.Machine.{Model}
use Rattle.model.specs.Steps.{Request, Answer, outcome, or_else, reading_fault, total_fault, grouping_fault, offer_fault, accepted_in, offered_if, offered, step}
use Rattle.model.specs.Runs.{Reservation, event, Leads}
use Rattle.model.proofs.Account.{LawfulAsks}
use Rattle.model.proofs.Cases.{never}
use Rattle.model.proofs.EveryRun.{law}
use Rattle.stream.specs.declared.faults.OfferFault.{OfferFault}
use Rattle.stream.specs.declared.faults.OfferFault.TheVariants.{Ended, RowsWait, Batch, TooManyRows, NotAdmitted, TooManyGroups, NoMemory}
use Rattle.stream.specs.Refusals.{offer_refusal, offer_answer, UnlessNoMemory}
use Rattle.stream.specs.Streams.{meaning, Comes}
use Rattle.stream.specs.Calls.{Makes}
use Rattle.stream.proofs.Settling.{comes_as}

pub unless-kept : (res : Result (Unit {0}) OfferFault) {P : Type 0} → P → UnlessNoMemory res P
unless-kept (Ok x) p = tt
unless-kept (Err Ended) p = p
unless-kept (Err RowsWait) p = p
unless-kept (Err (Batch e)) p = p
unless-kept (Err TooManyRows) p = p
unless-kept (Err (NotAdmitted row set)) p = p
unless-kept (Err TooManyGroups) p = p
unless-kept (Err NoMemory) p = tt

pub unless-never : (res : Result (Unit {0}) OfferFault) (P : Type 0) → UnlessNoMemory res ⊥ → UnlessNoMemory res P
unless-never (Ok x) P p = tt
unless-never (Err Ended) P p = absurd p
unless-never (Err RowsWait) P p = absurd p
unless-never (Err (Batch e)) P p = absurd p
unless-never (Err TooManyRows) P p = absurd p
unless-never (Err (NotAdmitted row set)) P p = absurd p
unless-never (Err TooManyGroups) P p = absurd p
unless-never (Err NoMemory) P p = tt

-- a trait's law on one question is the law that runs rest on
pub lawful_asks : {R : Type 0} (bytes : R → ℕ) (granted : R → Bool) (asks : R → ℕ → Bool → R → Type 0)
    → ((s : R) (n : ℕ) (a : Bool) (t : R) → asks s n a t → Resized n a (bytes s) (bytes t) (granted t)) → LawfulAsks (meaning bytes granted asks)
lawful_asks bytes granted asks lawful s n a t asked = let z = lawful s n a t asked in (z.answered, z.held, z.within)

-- what a call comes to goes on with whatever run led to it
pub makes : {S R : Type 0} (u : Setup S) (w : Reservation R) → LawfulAsks w → (m : Model S) (r : R) (q : Request) (a : Answer) (out : List (List CellOf)) (m' : Model S) (r' : R)
    → Comes w (step u m q) r m' r' a out → Makes u w m r q a out m' r'
makes u w lawful m r q a out m' r' (g, g', qs, is, asked) = record {
  comes = (g, g', qs, is, asked);
  law = λ sensible h led may.
      let e = event q a out in
      let more : Leads u w (e ∷ h) m' r' = (m, r, g, g', qs, led, may, is, asked) in
      (more, law u w sensible lawful (e ∷ h) m' r' more);
}

module _ {S R : Type 0} (u : Setup S) (w : Reservation R) (m : Model S) (values : List ℤ) (flags : List ℕ) where
  -- ---- the first question that is answered no

  abbrev rows : List (List CellOf)
  rows = rows_in u.settings.columns values flags

  module _ (reading : Option Refusal) (one : reading ≡ reading_fault u m.phase m.ended) where
    pub fault_reading : (e : Refusal) → reading ≡ Some e → offer_fault u m values flags ≡ Some e
    fault_reading e is =
        ap (λ (x : Option Refusal). or_else x (or_else (batch_fault u.settings.columns values flags) (or_else (total_fault u m rows) (grouping_fault u m.phase m rows)))) (sym one ∙ is)

    module _ (reads : reading ≡ None) where
      past_reading : offer_fault u m values flags ≡ or_else (batch_fault u.settings.columns values flags) (or_else (total_fault u m rows) (grouping_fault u m.phase m rows))
      past_reading =
          ap (λ (x : Option Refusal). or_else x (or_else (batch_fault u.settings.columns values flags) (or_else (total_fault u m rows) (grouping_fault u m.phase m rows)))) (sym one ∙ reads)

      pub fault_batch : (e : Refusal) → batch_fault u.settings.columns values flags ≡ Some e → offer_fault u m values flags ≡ Some e
      fault_batch e is = past_reading ∙ ap (λ (x : Option Refusal). or_else x (or_else (total_fault u m rows) (grouping_fault u m.phase m rows))) is

      module _ (whole : batch_fault u.settings.columns values flags ≡ None) (seen : List (List CellOf)) (view : seen ≡ rows) where
        past_batch : offer_fault u m values flags ≡ or_else (total_fault u m seen) (grouping_fault u m.phase m seen)
        past_batch =
            past_reading
            ∙ ap (λ (x : Option Refusal). or_else x (or_else (total_fault u m rows) (grouping_fault u m.phase m rows))) whole
            ∙ ap (λ (x : List (List CellOf)). or_else (total_fault u m x) (grouping_fault u m.phase m x)) (sym view)

        module _ (total : Option Refusal) (two : total ≡ total_fault u m seen) where
          pub fault_total : (e : Refusal) → total ≡ Some e → offer_fault u m values flags ≡ Some e
          fault_total e is = past_batch ∙ ap (λ (x : Option Refusal). or_else x (grouping_fault u m.phase m seen)) (sym two ∙ is)

          pub fault_groups : total ≡ None → (groups : Option Refusal) → groups ≡ grouping_fault u m.phase m seen → offer_fault u m values flags ≡ groups
          fault_groups counts groups three = past_batch ∙ ap (λ (x : Option Refusal). or_else x (grouping_fault u m.phase m seen)) (sym two ∙ counts) ∙ sym three

  -- ---- what comes of it

  pub refused-comes : (res : Result (Unit {0}) OfferFault) (e : OfferFault) → res ≡ Err e → offer_fault u m values flags ≡ Some (offer_refusal e) → (r : R)
      → Comes w (offered u m values flags) r m r (offer_answer res) []
  refused-comes res e is fault r = (
    true,
    true,
    [],
    ap (λ (x : Option Refusal). offered_if u x m rows true true) fault ∙ ap (λ (x : Result (Unit {0}) OfferFault). outcome m (offer_answer x) [] []) (sym is),
    refl,
  )

  pub accepted-comes : offer_fault u m values flags ≡ None → (seen : List (List CellOf)) → seen ≡ rows → (r : R) (m' : Model S) (r' : R) (a : Answer)
      → Comes w (accepted_in u m.phase m seen) r m' r' a [] → Comes w (offered u m values flags) r m' r' a []
  accepted-comes fault seen view r m' r' a =
      comes_as u w (offered u m values flags) (accepted_in u m.phase m seen)
      (λ g h. ap (λ (x : Option Refusal). offered_if u x m rows g h) fault ∙ ap (λ (x : List (List CellOf)). accepted_in u m.phase m x g h) (sym view))
      r m' r' a []

-- and rows that can be counted stay within 2^40
pub countable : {S : Type 0} (u : Setup S) (m : Model S) (rows : List (List CellOf)) → total_fault u m rows ≡ None → m.rows + length rows ≤ 2 ^ 40
countable u m rows = go (leb (m.rows + length rows) (2 ^ 40)) refl
  where
    go : (b : Bool) → leb (m.rows + length rows) (2 ^ 40) ≡ b → cond b None (Some (refusal 11 [])) ≡ None → m.rows + length rows ≤ 2 ^ 40
    go true is e = leb-true (m.rows + length rows) (2 ^ 40) is
    go false is e = never (cc)
