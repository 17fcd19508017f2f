-- The law holds of every run.
use Rattle.std.proofs.Common.{List}
use Rattle.model.specs.Setups.{Setup}
use Rattle.model.specs.Machine.{Model}
use Rattle.model.specs.Runs.{Reservation, Event, Leads}
use Rattle.model.specs.Law.{Law, Sensible}
use Rattle.model.proofs.Tracing.{traced}
use Rattle.model.proofs.Lossless as ll
use Rattle.model.proofs.Account.{LawfulAsks, accounted, emptied-account}
use Rattle.model.proofs.WholeResults.{whole_results, grand_results}

pub law : {S R : Type 0} (u : Setup S) (w : Reservation R) → Sensible u → LawfulAsks w → (h : List Event) (m : Model S) (r : R) → Leads u w h m r → Law u w h m r
law u w fine asks h m r l = record {
  lossless = ll.lossless u w fine h m r l;
  lossless_done = ll.lossless_done u w fine h m r l;
  whole = λ single ordered fin. whole_results u w fine single (traced u w fine) h m r l fin ordered;
  grand = λ single none fin. grand_results u w fine single (traced u w fine) h m r l fin none;
  exact = (accounted u w asks h m r l).0;
  short = (accounted u w asks h m r l).1;
  freed = λ fin. emptied-account u w asks h m r l (traced u w fine h m r l) fin;
}
