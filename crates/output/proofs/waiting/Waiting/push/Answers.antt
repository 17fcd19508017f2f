use Rattle.std.proofs.Common.{◌≡◌, ◌+◌, ◌≤◌, Bool, true, cond, ltb, [], ◌∷◌, ◌++◌, length, drop, vec_items, sym, ap, ◌∙◌, rules}
use Rattle.output.specs.Waits.{waiting_rows, stored}
use Rattle.std.proofs.lemmas.List.{drop-append-le}
use Rattle.output.proofs.waiting.Waiting.push.Goals as goal

pub returns-then-len-lt-MAX_WAITING_ROWS : goal.returns-then-len-lt-MAX_WAITING_ROWS
returns-then-len-lt-MAX_WAITING_ROWS c =
    let w = c.args.self.now in
    let within : w.at ≤ length (vec_items w.rows) = search rules in
    let free : ltb (stored w) 512 ≡ true = search rules in
    record {
      waiting =
          ap (drop w.at) c.push_reserved.ensures.items
          ∙ drop-append-le w.at (vec_items w.rows) (c.args.row ∷ []) within
          ∙ ap (λ (b : Bool). cond b (waiting_rows w ++ c.args.row ∷ []) (waiting_rows w)) (sym free);
      stored = c.push_reserved.ensures.len ∙ ap (λ (b : Bool). cond b (stored w + 1) (stored w)) (sym free);
    }
