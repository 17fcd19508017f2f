use Rattle.std.proofs.Common.{◌≡◌, ◌+◌, ◌<◌, ◌≤◌, ℕ, [], map, length, take, ap, sym, ◌∙◌, arith}
use Rattle.std.proofs.lemmas.List.{take_all, length-map, get_or-map}
use Rattle.cells.specs.Views.{view_rows}
use Rattle.model.specs.Setups.{row_key}
use Rattle.model.specs.Machine.{interned_all, placed_all}
use Rattle.groups.specs.Plans.{settings_of}
use Rattle.groups.proofs.Interning.{interned-more, interned-all}
use Rattle.groups.proofs.held.HeldGroups.intern_rows.Goals as goal

pub loop-row-preserved : goal.loop-row-preserved
loop-row-preserved g c =
    let key = row_key (settings_of c.args.plan.now) c.args.set in
    let rows = view_rows c.args.batch.now in
    let i = c.loop-row.row in
    let inside : i < length rows = omega (arith, c.loop-row-test.true, c.num_rows-row-end.ensures.value) in
    let at = c.row_key-key.ensures ∙ sym (get_or-map key rows i [] [] inside) in (
      interned-more g.G.GroupValues.admitted (g.G.GroupValues.keys c.args.self.now.group_values) (map key rows) i _ _ _ c.loop-row.invariant.0
          c.row_key-key.result _ c.intern.result _ c.unwrap_or-place.result _ (omega (arith, inside, length-map rows key)) at c.intern.ensures.after c.intern.ensures.answer c.unwrap_or-place.ensures c.push_reserved.ensures.items c.push_reserved-in-loop-row.ensures.items,
      c.push_reserved.ensures.len ∙ ap (λ (n : ℕ). n + 1) c.loop-row.invariant.1,
      c.push_reserved-in-loop-row.ensures.len ∙ ap (λ (n : ℕ). n + 1) c.loop-row.invariant.2,
      c.loop-row.invariant.3,
      c.loop-row.invariant.4,
    )

pub returns : goal.returns
returns g c =
    let key = row_key (settings_of c.args.plan.now) c.args.set in
    let rows = view_rows c.args.batch.now in
    let ks = map key rows in
    let end : length ks ≤ c.loop-row.row = omega (arith, c.loop-row-test.false, c.num_rows-row-end.ensures.value, length-map rows key) in
    let all = interned-all g.G.GroupValues.admitted (g.G.GroupValues.keys c.args.self.now.group_values) ks c.loop-row.row _ _ _ c.loop-row.invariant.0 end in
    let whole : take (length ks) ks ≡ ks = take_all (length ks) ks (omega arith) in
    record {
      table = all.keys ∙ ap (interned_all g.G.GroupValues.admitted (g.G.GroupValues.keys c.args.self.now.group_values)) whole;
      keys = all.keeps ∙ whole;
      places = all.places_are ∙ ap (placed_all g.G.GroupValues.admitted (g.G.GroupValues.keys c.args.self.now.group_values)) whole;
      accumulator = c.loop-row.invariant.3;
      ordering = c.loop-row.invariant.4;
    }
