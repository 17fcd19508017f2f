use Rattle.std.proofs.Common.{◌≡◌, ℕ, ◌-◌, ◌^◌, List, ◌++◌, get_or, min, sym, ap, ◌∙◌, rules}
use Rattle.cells.specs.Rows.{CellOf, overlaid}
use Rattle.output.proofs.Making.{shown_first}
use Rattle.output.proofs.rows.state_row.Goals as goal

pub returns : goal.returns
returns g c =
    let a = g.A.GroupsAccumulator.aggregation in
    let s = get_or (g.A.GroupsAccumulator.states c.args.accumulator.now) c.args.group a.neutral in
    let size = g.met.A.GroupsAccumulator.lawful.shows_length s in
    let first = shown_first (a.shows s) c.state_cells.result (c.state_cells.ensures ∙ ap (λ (n : ℕ). min n (2 ^ 64 - 1)) (sym size)) in
    let w = c.built.ensures.1 in
    let wrote : w.left.now ≡ overlaid (a.shows s) w.shown.now = search rules in
    let part = sym w.leaves ∙ wrote ∙ ap (overlaid (a.shows s)) w.shows ∙ first in
    c.built.ensures.2 ∙ ap (λ (cells : List CellOf). c.args.key.now ++ cells) part
