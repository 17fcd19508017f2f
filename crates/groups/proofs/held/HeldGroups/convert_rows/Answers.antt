use Rattle.std.proofs.Common.{◌<◌, Bool, cond, List, [], ◌++◌, length, get_or, take, vec_items, sym, ap, ◌∙◌, arith}
use Rattle.std.proofs.lemmas.List.{take_all, length-map, get_or-map}
use Rattle.cells.specs.Rows.{CellOf}
use Rattle.cells.specs.Views.{view_rows}
use Rattle.aggregates.specs.declared.aggregate_expr.AggregateExpr.{AggregateExpr}
use Rattle.model.specs.Setups.{row_key, out_row}
use Rattle.model.specs.Machine.{converted}
use Rattle.groups.specs.Plans.{settings_of, setup_of}
use Rattle.groups.proofs.Emitting.{put_more}
use Rattle.groups.proofs.held.HeldGroups.convert_rows.Goals as goal

pub loop-row-init : goal.loop-row-init
loop-row-init g c narrow partial = record { rows = c.clear.ensures.waiting; taken = c.clear.ensures.stored }

pub loop-row-preserved : goal.loop-row-preserved
loop-row-preserved g c narrow partial =
    let a = g.A.GroupsAccumulator.aggregation in
    let u = setup_of a g.G.GroupValues.admitted c.args.plan.now in
    let rows = view_rows c.args.batch.now in
    let i = c.loop-row.row in
    let row = get_or rows i [] in
    let exprs = vec_items c.args.plan.now.settings.exprs in
    let key = row_key (settings_of c.args.plan.now) 0 row in
    let turn : List CellOf → List CellOf = λ r. out_row u (row_key (settings_of c.args.plan.now) 0 r) (a.own exprs r) in
    let inside : i < length rows = omega (arith, c.loop-row-test.true, c.num_rows-row-end.ensures.value) in
    put_more (converted u rows) i _ _ _ _ _ [] (c.loop-row.invariant narrow partial) (omega (arith, inside, length-map rows turn)) (omega (arith, c.loop-row-test.true, c.num_rows-row-end.ensures.bound))
    (c.converted_row.ensures
    ∙ ap (λ (es : List AggregateExpr). c.row_key-key.result ++ take 8 (a.shows (a.own es row))) c.deref.ensures.value
    ∙ ap (λ (cs : List CellOf). cs ++ take 8 (a.shows (a.own exprs row))) c.row_key-key.ensures
    ∙ ap (λ (cs : List CellOf). key ++ cs) (take_all 8 (a.shows (a.own exprs row)) (omega (arith, g.met.A.GroupsAccumulator.lawful.shows_length (a.own exprs row), narrow.states)))
    ∙ sym (ap (λ (b : Bool). key ++ cond b (a.shows (a.own exprs row)) (a.results (a.own exprs row))) partial)
    ∙ sym (get_or-map turn rows i [] [] inside))
    c.push.ensures.waiting c.push.ensures.stored

pub returns : goal.returns
returns g c narrow partial =
    let a = g.A.GroupsAccumulator.aggregation in
    let u = setup_of a g.G.GroupValues.admitted c.args.plan.now in
    let rows = view_rows c.args.batch.now in
    let turn : List CellOf → List CellOf = λ r. out_row u (row_key (settings_of c.args.plan.now) 0 r) (a.own (vec_items c.args.plan.now.settings.exprs) r) in
    (c.loop-row.invariant narrow partial).rows
    ∙ take_all c.loop-row.row (converted u rows) (omega (arith, c.loop-row-test.false, c.num_rows-row-end.ensures.value, length-map rows turn))
