-- What a run of a script comes to, and the law of it. Assumes nothing.
use Rattle.std.specs.Prelude.{◌≡◌, ℕ, Bool, List, ◌++◌, map, ℤ, Some, None, Ok, Err, vec_items, Option, Result}
use Rattle.cells.specs.declared.refused.Refused.{Refused}
use Rattle.cells.specs.Refusals.{Refusal}
use Rattle.cells.specs.Rows.{CellOf}
use Rattle.accumulators.specs.declared.groups_accumulator.GroupsAccumulator as GroupsAccumulator
use Rattle.group_values.specs.declared.group_values.GroupValues as GroupValues
use Rattle.memory.specs.declared.reservation.MemoryReservation as MemoryReservation
use Rattle.groups.specs.declared.settings.SettingsFault.{SettingsFault}
use Rattle.groups.specs.Plans.{settings_of}
use Rattle.groups.specs.Settings.{given_settings, given_setup, settings_refusal}
use Rattle.model.specs.Setups.{Setup, out_width}
use Rattle.model.specs.Questions.{settings_fault}
use Rattle.model.specs.Machine.{Model}
use Rattle.model.specs.Steps as steps
use Rattle.model.specs.Steps.{Request}
use Rattle.model.specs.Runs.{Reservation}
use Rattle.runs.specs.Noted.{Noted, event_of, LeadsNoting}
use Rattle.model.specs.Law.{Law}
use Rattle.stream.specs.declared.state.StreamParts.{StreamParts}
use Rattle.stream.specs.Making.{are_new}
use Rattle.stream.specs.Streams.{StreamOf, model_of, setup_in, memory_of}
use Rattle.stream.specs.Calls.{Makes}
use Rattle.runs.specs.declared.script.Reply.{Reply}
use Rattle.runs.specs.declared.script.Run.{Run}
use Rattle.runs.specs.declared.script.Script.{Script}
use Rattle.runs.specs.declared.script.Stage.{Stage}
use Rattle.runs.specs.declared.script.Stage.TheVariants.{Reading, Closing}
use Rattle.runs.specs.Scripts.{requests_of, slices_of, answer_of, tells, told, in_order, written, written_all}

module _ {S R : Type 0} (u : Setup S) (w : Reservation R) where
  -- one call was made: it is the defined step, its reply tells the answer and the reservation after it, and its slices hold
  -- the rows that it handed out
  pub record Called (m : Model S) (r : R) (q : Request) (before after : List ℤ × List ℕ) (reply : Reply) (m' : Model S) (r' : R) : Type 0 where
    pub out : List (List CellOf)
    pub makes : Makes u w m r q (answer_of reply.answer) out m' r'
    pub bytes_are : reply.bytes ≡ w.bytes r'
    pub granted_are : reply.granted ≡ w.granted r'
    pub slices-are : after ≡ written (out_width u) out before

  -- calls were made one after the other, on what the history h led to
  pub record Walked (h : List Noted) (requests : List Request) (before after : List (List ℤ × List ℕ)) (told₀ told₁ : List (steps.Answer × ℕ × Bool)) (m : Model S) (r : R) : Type 0 where
    pub events : List Noted
    pub leads : LeadsNoting u w (events ++ h) m r
    pub requests_are : map (λ (e : Noted). e.request) (in_order events) ≡ requests
    pub replies_are : told₁ ≡ told₀ ++ map told (in_order events)
    pub slices-are : after ≡ written_all (out_width u) (in_order events) before

  -- The law over runs, of a script: there is a run of exactly the script's calls, each on what the one before left, with
  -- exactly these answers and this reservation after each, that leads to this stream and this reservation; each call's slices
  -- hold what it handed out, and nothing else in them has changed; and the law holds of that run.
  pub record Ran (script script' : Script) (replies : List Reply) (m : Model S) (r : R) : Type 0 where
    pub history : List Noted
    pub leads : LeadsNoting u w history m r
    pub requests_are : map (λ (e : Noted). e.request) (in_order history) ≡ requests_of script
    pub replies_are : map tells replies ≡ map told (in_order history)
    pub slices-are : slices_of script' ≡ written_all (out_width u) (in_order history) (slices_of script)
    pub requests_same : requests_of script' ≡ requests_of script
    pub law : Law u w (map event_of history) m r

module _ {G A S R : Type 0} {g : GroupValues.Ghosts G} {a : GroupsAccumulator.Ghosts A S} {r : MemoryReservation.Ghosts R} where
  -- a history leads to a stream
  abbrev pub LeadsTo : StreamOf g a r → List Noted → Type 0
  LeadsTo s h = LeadsNoting (setup_in s) (memory_of s) h (model_of s) s.reservation

  -- a call on a stream led to another
  abbrev pub CalledOn : StreamOf g a r → Request → List ℤ × List ℕ → List ℤ × List ℕ → Reply → StreamOf g a r → Type 0
  CalledOn old q before after reply new = Called (setup_in old) (memory_of old) (model_of old) old.reservation q before after reply (model_of new) new.reservation

  -- calls on a stream led to another
  abbrev pub WalkedOn : StreamOf g a r → List Noted → List Request → List (List ℤ × List ℕ) → List (List ℤ × List ℕ)
      → List (steps.Answer × ℕ × Bool) → List (steps.Answer × ℕ × Bool) → StreamOf g a r → Type 0
  WalkedOn old h requests before after told₀ told₁ new = Walked (setup_in old) (memory_of old) h requests before after told₀ told₁ (model_of new) new.reservation

  abbrev pub stream_of : Stage G A R S g a r → StreamOf g a r
  stream_of (Reading s) = s
  stream_of (Closing s) = s.stream

  -- the stream reads on exactly where finish was not called
  abbrev pub Staged : {X : Type 0} → Stage G A R S g a r → Option X → Type 0
  Staged (Reading s) None = Unit {0}
  Staged (Reading s) (Some x) = ⊥
  Staged (Closing s) None = ⊥
  Staged (Closing s) (Some x) = Unit {0}

  -- a run of the whole script on a stream of the parts, where every question is answered yes; else the parts come back, with the first question that is not, or where there is no memory, and the script is as it was
  abbrev pub Runs : StreamParts G A R → Script → Result (Run G A R S g a r) (Refused (StreamParts G A R) SettingsFault) → Script → Type 0
  Runs parts script (Ok run) script' =
      let s = stream_of run.stage in
      (settings_fault (given_setup a.aggregation g.admitted parts.settings) (are_new g a r parts) ≡ None)
      × (settings_of s.plan ≡ given_settings parts.settings)
      × Staged run.stage script.closing
      × Ran (setup_in s) (memory_of s) script script' (vec_items run.replies) (model_of s) s.reservation
  Runs parts script (Err back) script' =
      ((e : Refusal) → settings_refusal back.fault ≡ Some e → settings_fault (given_setup a.aggregation g.admitted parts.settings) (are_new g a r parts) ≡ Some e)
      × (back.given ≡ parts)
      × (script' ≡ script)
