-- The rows from `at` to `end` are the first that wait; they are written, and those behind them wait on.
use Rattle.std.proofs.Common.{◌≡◌, ◌+◌, ◌-◌, min, List, map, length, take, drop, vec_items, refl, ap, ◌∙◌, rules}
use Rattle.cells.specs.Rows.{CellOf, overlaid}
use Rattle.output.specs.Slices.{value_of, flag_of, flat}
use Rattle.output.specs.Waits.{waiting_rows}
use Rattle.output.proofs.Handing.{handed_out, wait_on}
use Rattle.output.proofs.waiting.Waiting.hand_out.Goals as goal

pub returns : goal.returns
returns c =
    let w = c.args.self.now in
    let items = vec_items w.rows in
    let n = c.args.n in
    let end = w.at + c.min.result in
    let ends : end ≡ w.at + min n (length items - w.at) = search rules in
    let handed : take (end - w.at) (drop w.at c.deref.result.now) ≡ take n (waiting_rows w) =
    ap (λ (rs : List (List CellOf)). take (end - w.at) (drop w.at rs)) c.deref.ensures.value ∙ handed_out items w.at n end ends in
    record {
      waiting = wait_on items w.at n end ends;
      stored = refl;
      values = c.write_rows.ensures.values ∙ ap (λ (rs : List (List CellOf)). overlaid (map value_of (flat c.args.width rs)) c.args.values.now) handed;
      flags = c.write_rows.ensures.flags ∙ ap (λ (rs : List (List CellOf)). overlaid (map flag_of (flat c.args.width rs)) c.args.flags.now) handed;
    }
