-- What an ordering of the groups knows, and how it changes. Assumes nothing.
use Rattle.std.specs.Prelude.{ℕ, ◌-◌, min, Bool, true, false, cond, ◌&&◌, List, [], ◌∷◌, Some, None, Option, ◌==◌, slice_index, slice_index_or}
use Rattle.cells.specs.declared.emit_to.EmitTo.{EmitTo}
use Rattle.cells.specs.declared.emit_to.EmitTo.TheVariants.{All, First}
use Rattle.cells.specs.Rows.{CellOf}
use Rattle.cells.specs.Same.{same_key}
use Rattle.order.specs.Runs.{sort_keys, last_run}

-- the declared order
pub data Mode : Type 0 where
  linear : Mode
  sorted : Mode
  partially : List ℕ → Mode

-- the groups before the mark are finished, and at the input's end all are
pub record Order : Type 0 where
  pub mode : Mode
  pub mark : ℕ
  -- the sort key of the run that was counted last
  pub counted : Option (List CellOf)
  pub ended : Bool

abbrev pub start : Mode → Order
start m = record { mode = m; mark = 0; counted = None; ended = false }

abbrev pub marked : Order → ℕ → Option (List CellOf) → Order
marked o place key = record { mode = o.mode; mark = place; counted = key; ended = o.ended }

abbrev pub is_counted : Option (List CellOf) → List CellOf → Bool
is_counted None key = false
is_counted (Some counted) key = same_key counted key

-- the batch's last run counts, unless it is the whole batch and goes on with the run counted before
abbrev pub run_counted : Order → ℕ → List CellOf → List ℕ → Order
run_counted o at key places = cond (at == 0 && is_counted o.counted key) o (marked o (slice_index places at) (Some key))

abbrev pub run_opened : Order → List (List CellOf) → List ℕ → Order
run_opened o [] places = o
run_opened o (k ∷ ks) places = run_counted o (last_run (k ∷ ks)) (slice_index_or (k ∷ ks) (last_run (k ∷ ks)) []) places

-- a batch has opened groups: its rows' keys and places, and how many groups are held now
abbrev pub opened_in : Mode → Order → List (List CellOf) → List ℕ → ℕ → Order
opened_in linear o keys places total = o
opened_in sorted o keys places total = marked o (total - 1) o.counted
opened_in (partially positions) o keys places total = run_opened o (sort_keys positions keys) places

abbrev pub opened : Order → List (List CellOf) → List ℕ → ℕ → Order
opened o keys places total = cond o.ended o (opened_in o.mode o keys places total)

-- the prefix, if there is one
abbrev pub emit_to_in : Mode → ℕ → Bool → Option EmitTo
emit_to_in linear mark ended = None
emit_to_in sorted mark ended = cond ended (Some All) (cond (mark == 0) None (Some (First mark)))
emit_to_in (partially positions) mark ended = cond ended (Some All) (cond (mark == 0) None (Some (First mark)))

abbrev pub emit_to : Order → Option EmitTo
emit_to o = emit_to_in o.mode o.mark o.ended

-- at most n of the prefix
abbrev pub at_most : ℕ → Option EmitTo → Option EmitTo
at_most n None = None
at_most n (Some All) = Some (First n)
at_most n (Some (First m)) = Some (First (min n m))

abbrev pub oom_emit_to_in : Mode → Order → ℕ → Option EmitTo
oom_emit_to_in linear o n = Some (First n)
oom_emit_to_in sorted o n = at_most n (emit_to o)
oom_emit_to_in (partially positions) o n = at_most n (emit_to o)

-- what is emitted where memory is refused and n groups are wanted
abbrev pub oom_emit_to : Order → ℕ → Option EmitTo
oom_emit_to o n = cond (n == 0) None (oom_emit_to_in o.mode o n)

abbrev pub removed_in : Mode → Order → ℕ → Order
removed_in linear o n = o
removed_in sorted o n = marked o (o.mark - n) o.counted
removed_in (partially positions) o n = marked o (o.mark - n) o.counted

-- the first n groups are gone
abbrev pub removed : Order → ℕ → Order
removed o n = cond o.ended o (removed_in o.mode o n)

abbrev pub done_in : Mode → Order → Order
done_in linear o = o
done_in sorted o = record { mode = o.mode; mark = 0; counted = None; ended = true }
done_in (partially positions) o = record { mode = o.mode; mark = 0; counted = None; ended = true }

-- the input is at its end
abbrev pub done : Order → Order
done o = done_in o.mode o
