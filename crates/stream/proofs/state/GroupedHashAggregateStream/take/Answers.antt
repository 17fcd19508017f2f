use Rattle.std.proofs.Common.{◌≡◌, ℕ, ◌*◌, ◌<◌, ◌≤◌, ◌⊎◌, List, map, length, take, drop, sym, refl, ap, ◌∙◌, true≢false, arith}
use Rattle.std.proofs.lemmas.Bool.{eqb-true, eq-eqb}
use Rattle.cells.specs.Rows.{CellOf, overlaid}
use Rattle.output.specs.Slices.{value_of, flag_of, flat}
use Rattle.output.specs.Waits.{waiting_rows}
use Rattle.model.specs.Setups.{out_width}
use Rattle.model.specs.Machine.{waiting}
use Rattle.model.specs.Steps.{piece, take as taking}
use Rattle.stream.specs.declared.state.ExecutionState.{ExecutionState}
use Rattle.stream.specs.Streams.{phase_of, model_of, setup_in, memory_of}
use Rattle.stream.specs.Calls.{out_of}
use Rattle.stream.proofs.Alike.{rebuilt}
use Rattle.stream.proofs.Offering.{lawful_asks, makes}
use Rattle.stream.proofs.Taking.{small_product, exact_product, less_product, few_taken, narrow-row, none_out, none_comes, short_out, short_comes, handed_out_lem, last_comes, more-comes, waits-on, with_state}
use Rattle.stream.proofs.state.GroupedHashAggregateStream.take.Goals as goal

pub returns-in_default : goal.returns-in_default
returns-in_default g c =
    let s = c.args.self.now in
    let w = memory_of s in
    let u = setup_in s in
    let m = model_of s in
    let v = c.args.values.now in
    let f = c.args.flags.now in
    let comes = none_comes u w m s.reservation s.exec_state (waiting_rows s.waiting) refl (length v) (length f) c.in_default.not-ProducingOutput in
    let out = none_out u w m s.reservation s.exec_state (waiting_rows s.waiting) refl (length v) (length f) c.in_default.not-ProducingOutput in
    record {
      takes = record {
        makes = makes u w (lawful_asks _ _ _ g.met.R.MemoryReservation.lawful) m s.reservation (taking (length v) (length f)) _ _ _ _ comes;
        values_are = ap (λ (rows : List (List CellOf)). overlaid (map value_of (flat (out_width u) rows)) v) (sym out);
        flags_are = ap (λ (rows : List (List CellOf)). overlaid (map flag_of (flat (out_width u) rows)) f) (sym out);
      };
      unaltered = (refl, refl, refl);
      plan = refl;
    }

pub returns-then-values-cells : goal.returns-then-values-cells
returns-then-values-cells g c =
    let s = c.args.self.now in
    let w = memory_of s in
    let u = setup_in s in
    let m = model_of s in
    let v = c.args.values.now in
    let f = c.args.flags.now in
    let ws = waiting_rows s.waiting in
    let whole = c.in-ProducingOutput.whole in
    let at : m.phase ≡ waiting ws whole = ap (λ (x : ExecutionState). phase_of x ws) c.in-ProducingOutput.is in
    let n = c.piece-rows.result in
    let of : n ≡ piece u.settings.batch_size whole (length ws) = c.piece-rows.ensures ∙ ap (piece u.settings.batch_size whole) c.len.ensures.value in
    let short : (length v < n * out_width u) ⊎ (length f < n * out_width u) = less_product n c.row_width-width.result (out_width u) _ (length v) (length f) c.saturating_mul-cells.ensures c.row_width-width.ensures c.then-values-cells.either in
    let comes = short_comes u w m s.reservation ws whole at (length v) (length f) n of short in
    let out = short_out u w m s.reservation ws whole at (length v) (length f) n of short in
    record {
      takes = record {
        makes = makes u w (lawful_asks _ _ _ g.met.R.MemoryReservation.lawful) m s.reservation (taking (length v) (length f)) _ _ _ _ comes;
        values_are = ap (λ (rows : List (List CellOf)). overlaid (map value_of (flat (out_width u) rows)) v) (sym out);
        flags_are = ap (λ (rows : List (List CellOf)). overlaid (map flag_of (flat (out_width u) rows)) f) (sym out);
      };
      unaltered = (rebuilt s c.self-1.given.0 c.self-1.given.1.0 c.self-1.given.1.1.0, refl, refl);
      plan = refl;
    }

pub returns-then-is_empty : goal.returns-then-is_empty
returns-then-is_empty g c =
    let s = c.args.self.now in
    let w = memory_of s in
    let u = setup_in s in
    let m = model_of s in
    let v = c.args.values.now in
    let f = c.args.flags.now in
    let ws = waiting_rows s.waiting in
    let whole = c.in-ProducingOutput.whole in
    let at : m.phase ≡ waiting ws whole = ap (λ (x : ExecutionState). phase_of x ws) c.in-ProducingOutput.is in
    let n = c.piece-rows.result in
    let of : n ≡ piece u.settings.batch_size whole (length ws) = c.piece-rows.ensures ∙ ap (piece u.settings.batch_size whole) c.len.ensures.value in
    let cells : n * out_width u ≡ c.saturating_mul-cells.result = exact_product n c.row_width-width.result (out_width u) _ c.saturating_mul-cells.ensures c.row_width-width.ensures
    (small_product n (out_width u) (omega (arith, few_taken u.settings.batch_size whole c.len.result n c.piece-rows.ensures, c.len.ensures.bound)) (narrow-row u s.plan.few_keys s.narrow)) in
    let fits_values : n * out_width u ≤ length v = omega (arith, cells, c.if-values-cells.false) in
    let fits_flags : n * out_width u ≤ length f = omega (arith, cells, c.if-flags-cells.false) in
    let out : out_of u w m s.reservation (length v) (length f) ≡ take n ws = handed_out_lem u w m s.reservation ws whole at (length v) (length f) n of fits_values fits_flags in
    let none : length (drop n ws) ≡ 0 = ap length (sym c.hand_out.ensures.waiting) ∙ eqb-true (length (waiting_rows c.hand_out.new.self)) 0 (sym c.is_empty.ensures ∙ c.if-is_empty.true) in
    let comes = last_comes u w m s.reservation ws whole at (length v) (length f) n of fits_values fits_flags none _ _ c.output_taken.ensures.ends in
    record {
      takes = record {
        makes = makes u w (lawful_asks _ _ _ g.met.R.MemoryReservation.lawful) m s.reservation (taking (length v) (length f)) _ _ _ _ comes;
        values_are = c.hand_out.ensures.values
            ∙ ap (λ (W : ℕ). overlaid (map value_of (flat W (take n ws))) v) c.row_width-width.ensures
            ∙ ap (λ (rows : List (List CellOf)). overlaid (map value_of (flat (out_width u) rows)) v) (sym out);
        flags_are = c.hand_out.ensures.flags
            ∙ ap (λ (W : ℕ). overlaid (map flag_of (flat W (take n ws))) f) c.row_width-width.ensures
            ∙ ap (λ (rows : List (List CellOf)). overlaid (map flag_of (flat (out_width u) rows)) f) (sym out);
      };
      unaltered = tt;
      plan = c.output_taken.ensures.plan;
    }

pub returns-else-is_empty : goal.returns-else-is_empty
returns-else-is_empty g c =
    let s = c.args.self.now in
    let w = memory_of s in
    let u = setup_in s in
    let m = model_of s in
    let v = c.args.values.now in
    let f = c.args.flags.now in
    let ws = waiting_rows s.waiting in
    let whole = c.in-ProducingOutput.whole in
    let at : m.phase ≡ waiting ws whole = ap (λ (x : ExecutionState). phase_of x ws) c.in-ProducingOutput.is in
    let n = c.piece-rows.result in
    let of : n ≡ piece u.settings.batch_size whole (length ws) = c.piece-rows.ensures ∙ ap (piece u.settings.batch_size whole) c.len.ensures.value in
    let cells : n * out_width u ≡ c.saturating_mul-cells.result = exact_product n c.row_width-width.result (out_width u) _ c.saturating_mul-cells.ensures c.row_width-width.ensures
    (small_product n (out_width u) (omega (arith, few_taken u.settings.batch_size whole c.len.result n c.piece-rows.ensures, c.len.ensures.bound)) (narrow-row u s.plan.few_keys s.narrow)) in
    let fits_values : n * out_width u ≤ length v = omega (arith, cells, c.if-values-cells.false) in
    let fits_flags : n * out_width u ≤ length f = omega (arith, cells, c.if-flags-cells.false) in
    let out : out_of u w m s.reservation (length v) (length f) ≡ take n ws = handed_out_lem u w m s.reservation ws whole at (length v) (length f) n of fits_values fits_flags in
    let some : length (drop n ws) ≡ 0 → ⊥ = λ e.
    true≢false (sym (eq-eqb (length (waiting_rows c.hand_out.new.self)) 0 (ap length c.hand_out.ensures.waiting ∙ e)) ∙ sym c.is_empty.ensures ∙ c.if-is_empty.false) in
    let comes = waits-on w _ s.reservation s.reservation _ _ _ _ (with_state m (drop n ws) (waiting_rows c.hand_out.new.self) whole s.exec_state c.in-ProducingOutput.is c.hand_out.ensures.waiting)
    (more-comes u w m s.reservation ws whole at (length v) (length f) n of fits_values fits_flags some) in
    record {
      takes = record {
        makes = makes u w (lawful_asks _ _ _ g.met.R.MemoryReservation.lawful) m s.reservation (taking (length v) (length f)) _ _ _ _ comes;
        values_are = c.hand_out.ensures.values
            ∙ ap (λ (W : ℕ). overlaid (map value_of (flat W (take n ws))) v) c.row_width-width.ensures
            ∙ ap (λ (rows : List (List CellOf)). overlaid (map value_of (flat (out_width u) rows)) v) (sym out);
        flags_are = c.hand_out.ensures.flags
            ∙ ap (λ (W : ℕ). overlaid (map flag_of (flat W (take n ws))) f) c.row_width-width.ensures
            ∙ ap (λ (rows : List (List CellOf)). overlaid (map flag_of (flat (out_width u) rows)) f) (sym out);
      };
      unaltered = tt;
      plan = refl;
    }
