use Rattle.std.proofs.Common.{◌≡◌}
use Rattle.model.specs.Machine.{interned_all, grand_keys}
use Rattle.groups.specs.Plans.{setup_of}
use Rattle.groups.proofs.Totals.{grand_left}
use Rattle.groups.proofs.held.HeldGroups.make_totals.Given as goal

-- The sets that are left make of the table what all sets make of the one at the start.
abbrev pub invariant-loop-set : goal.invariant-loop-set
invariant-loop-set g l =
    let u = setup_of g.A.GroupsAccumulator.aggregation g.G.GroupValues.admitted l.plan in
    (interned_all u.admitted (g.G.GroupValues.keys l.self.group_values) (grand_left u l.set)
    ≡ interned_all u.admitted (g.G.GroupValues.keys l.initial.self.group_values) (grand_keys u))
    × (l.self.accumulator ≡ l.initial.self.accumulator)
    × (l.self.group_ordering ≡ l.initial.self.group_ordering)
