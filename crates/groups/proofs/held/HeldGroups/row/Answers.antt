use Rattle.std.proofs.Common.{cond, List, [], ◌++◌, get_or, take, sym, ap, ◌∙◌, arith}
use Rattle.std.proofs.lemmas.List.{take_all}
use Rattle.cells.specs.Rows.{CellOf}
use Rattle.groups.specs.declared.settings.AggregateMode.{AggregateMode}
use Rattle.groups.specs.Settings.{is_partial}
use Rattle.groups.proofs.held.HeldGroups.row.Goals as goal

pub returns-in-Partial : goal.returns-in-Partial
returns-in-Partial g c narrow =
    let a = g.A.GroupsAccumulator.aggregation in
    let key = get_or (g.G.GroupValues.keys c.args.self.now.group_values) c.args.group [] in
    let s = get_or (g.A.GroupsAccumulator.states c.args.self.now.accumulator) c.args.group a.neutral in
    c.state_row.ensures
    ∙ ap (λ (cs : List CellOf). cs ++ take 8 (a.shows s)) c.key-key.ensures
    ∙ ap (λ (cs : List CellOf). key ++ cs) (take_all 8 (a.shows s) (omega (arith, g.met.A.GroupsAccumulator.lawful.shows_length s, narrow.states)))
    ∙ sym (ap (λ (m : AggregateMode). key ++ cond (is_partial m) (a.shows s) (a.results s)) c.in-Partial.is)

pub returns-in-Single : goal.returns-in-Single
returns-in-Single g c narrow =
    let a = g.A.GroupsAccumulator.aggregation in
    let key = get_or (g.G.GroupValues.keys c.args.self.now.group_values) c.args.group [] in
    let s = get_or (g.A.GroupsAccumulator.states c.args.self.now.accumulator) c.args.group a.neutral in
    c.result_row.ensures
    ∙ ap (λ (cs : List CellOf). cs ++ take 8 (a.results s)) c.key-key.ensures
    ∙ ap (λ (cs : List CellOf). key ++ cs) (take_all 8 (a.results s) (omega (arith, g.met.A.GroupsAccumulator.lawful.results_length s, narrow.results)))
    ∙ sym (ap (λ (m : AggregateMode). key ++ cond (is_partial m) (a.shows s) (a.results s)) c.in-Single.is)
