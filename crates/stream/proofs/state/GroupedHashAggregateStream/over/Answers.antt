use Rattle.std.proofs.Common.{◌≡◌, Bool, None, sym, refl, ap, ◌∙◌, subst}
use Rattle.order.specs.Orders.{start}
use Rattle.groups.specs.Plans.{setup_of}
use Rattle.groups.specs.Settings.{given_settings, given_setup}
use Rattle.groups.proofs.Passing.{parts_new, few_cells}
use Rattle.model.specs.Setups.{Settings}
use Rattle.model.specs.Questions.{settings_fault}
use Rattle.stream.specs.Making.{parts_in}
use Rattle.stream.proofs.Beginning.{new_model, no_keys, no_states, no_bytes, unrefused, sensible-plan}
use Rattle.stream.proofs.state.GroupedHashAggregateStream.over.Goals as goal

pub returns-in-Ok-try_new : goal.returns-in-Ok-try_new
returns-in-Ok-try_new g c =
    let a = g.A.GroupsAccumulator.aggregation in
    let table = g.G.GroupValues in
    let accumulator = g.A.GroupsAccumulator in
    let memory = g.R.MemoryReservation in
    let given = given_setup a g.G.GroupValues.admitted c.args.settings in
    let held = c.args.held in
    let planned = c.in-Ok-try_new.ensures in
    let yes_new = parts_new given c.args.parts_are_new c.requires.asked in
    let new = sym c.requires.new ∙ yes_new in (
      subst (λ (b : Bool). settings_fault given b ≡ None) c.requires.new c.requires.asked,
      record {
        settled = planned.1;
        model = new_model (setup_of a g.G.GroupValues.admitted c.in-Ok-try_new.plan) _ _ _ _
            (no_keys table accumulator memory (parts_in c.args.settings held c.args.reservation) new)
            (no_states table accumulator memory (parts_in c.args.settings held c.args.reservation) new)
            (c.requires.order ∙ ap (λ (st : Settings). start st.order) (sym planned.1)) c.new_probe.ensures;
        reservation_is = refl;
        empty = no_bytes table accumulator memory (parts_in c.args.settings held c.args.reservation) new;
        granted = unrefused table accumulator memory (parts_in c.args.settings held c.args.reservation) new;
        sensible = sensible-plan a g.G.GroupValues.admitted _ (given_settings c.args.settings) planned.1 g.met.A.GroupsAccumulator.lawful
            (subst (λ (b : Bool). settings_fault given b ≡ None) yes_new c.requires.asked) planned.2;
        narrow = few_cells given c.args.parts_are_new c.requires.asked;
      },
    )
