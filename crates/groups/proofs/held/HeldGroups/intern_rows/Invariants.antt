use Rattle.std.proofs.Common.{◌≡◌, map, vec_items, vec_len}
use Rattle.cells.specs.Views.{view_rows}
use Rattle.model.specs.Setups.{row_key}
use Rattle.groups.specs.Plans.{settings_of}
use Rattle.groups.proofs.Interning.{Interned}
use Rattle.groups.proofs.held.HeldGroups.intern_rows.Given as goal

abbrev pub invariant-loop-row : goal.invariant-loop-row
invariant-loop-row g l =
    let ks = map (row_key (settings_of l.plan) l.set) (view_rows l.batch) in
    Interned g.G.GroupValues.admitted (g.G.GroupValues.keys l.initial.self.group_values) ks l.row
    (g.G.GroupValues.keys l.self.group_values) (vec_items l.self.current_group_keys) (vec_items l.self.current_group_indices)
    × (vec_len l.self.current_group_keys ≡ l.row)
    × (vec_len l.self.current_group_indices ≡ l.row)
    × (l.self.accumulator ≡ l.initial.self.accumulator)
    × (l.self.group_ordering ≡ l.initial.self.group_ordering)
