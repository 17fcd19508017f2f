-- A stream of new parts begins as is defined.
use Rattle.std.proofs.Common.{◌≡◌, Bool, true, false, ◌&&◌, eqb, List, [], ◌∷◌, length, None, Option, sym, refl, ap, ◌∙◌, subst, arith}
use Rattle.std.proofs.lemmas.Bool.{eqb-true, and_parts}
use Rattle.cells.specs.Rows.{CellOf}
use Rattle.group_by.specs.Sets.{IdsDiffer}
use Rattle.accumulators.specs.Aggregations.{Aggregation, Lawful}
use Rattle.accumulators.specs.declared.groups_accumulator.GroupsAccumulator as GroupsAccumulator
use Rattle.group_values.specs.declared.group_values.GroupValues as GroupValues
use Rattle.memory.specs.declared.reservation.MemoryReservation as MemoryReservation
use Rattle.order.specs.Orders.{Order, start as unordered}
use Rattle.order.specs.Skip.{Probe}
use Rattle.model.specs.Setups.{Settings, Setup, first_probe}
use Rattle.model.specs.Questions.{settings_fault}
use Rattle.model.specs.Machine.{groups, Model, grouping, start}
use Rattle.model.specs.Law.{Sensible}
use Rattle.stream.specs.declared.state.StreamParts.{StreamParts}
use Rattle.stream.specs.Making.{are_new}

no_items : {X : Type 0} (xs : List X) → eqb (length xs) 0 ≡ true → xs ≡ []
no_items [] e = refl
no_items (x ∷ xs) e = absurd (omega (arith, eqb-true (length (x ∷ xs)) 0 e))

pub new_model : {S : Type 0} (u : Setup S) (keys : List (List CellOf)) (states : List S) (o : Order) (p : Option Probe)
    → keys ≡ [] → states ≡ [] → o ≡ unordered u.settings.order → p ≡ first_probe u.settings
    → record { held = groups keys states o; probe = p; phase = grouping; ended = false; closing = false; rows = 0 } ≡ start u
new_model {S} u keys states o p no_keys no_states is probe =
    ap (λ (x : List (List CellOf)). made x states o p) no_keys
    ∙ ap (λ (x : List S). made [] x o p) no_states
    ∙ ap (λ (x : Order). made [] [] x p) is
    ∙ ap (λ (x : Option Probe). made [] [] (unordered u.settings.order) x) probe
  where
    made : List (List CellOf) → List S → Order → Option Probe → Model S
    made ks ss x y = record { held = groups ks ss x; probe = y; phase = grouping; ended = false; closing = false; rows = 0 }

-- what is new holds nothing, and was refused nothing
module _ {G A S R : Type 0} (g : GroupValues.Ghosts G) (a : GroupsAccumulator.Ghosts A S) (r : MemoryReservation.Ghosts R) (parts : StreamParts G A R)
    (new : are_new g a r parts ≡ true) where
  pub no_keys : g.keys parts.group_values ≡ []
  no_keys = no_items (g.keys parts.group_values) (and_parts (eqb (length (g.keys parts.group_values)) 0) _ new).0

  others : (eqb (length (a.states parts.accumulator)) 0 && (eqb (r.bytes parts.reservation) 0 && r.granted parts.reservation)) ≡ true
  others = (and_parts (eqb (length (g.keys parts.group_values)) 0) _ new).1

  pub no_states : a.states parts.accumulator ≡ []
  no_states = no_items (a.states parts.accumulator) (and_parts (eqb (length (a.states parts.accumulator)) 0) _ others).0

  unused : (eqb (r.bytes parts.reservation) 0 && r.granted parts.reservation) ≡ true
  unused = (and_parts (eqb (length (a.states parts.accumulator)) 0) _ others).1

  pub no_bytes : r.bytes parts.reservation ≡ 0
  no_bytes = eqb-true (r.bytes parts.reservation) 0 (and_parts (eqb (r.bytes parts.reservation) 0) (r.granted parts.reservation) unused).0

  pub unrefused : r.granted parts.reservation ≡ true
  unrefused = (and_parts (eqb (r.bytes parts.reservation) 0) (r.granted parts.reservation) unused).1

-- settings that passed their questions make a sensible setup of a plan that stands for them
pub sensible-plan : {S : Type 0} (a : Aggregation S) (admitted : List CellOf → Bool) (st given : Settings) → st ≡ given → Lawful a
    → settings_fault (record { settings = given; aggregation = a; admitted = admitted }) true ≡ None
    → (given.group_by.grouped ≡ true → IdsDiffer given.group_by.sets) → Sensible (record { settings = st; aggregation = a; admitted = admitted })
sensible-plan a admitted st given same lawful asked numbered =
    subst (λ (x : Settings). Sensible (record { settings = x; aggregation = a; admitted = admitted })) (sym same) (record { lawful = lawful; asked = asked; numbered = numbered })
