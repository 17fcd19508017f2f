-- What a stream holds, and the parts of its steps. Assumes nothing.
use Rattle.std.specs.Prelude.{ℕ, zero, suc, ◌+◌, Bool, true, false, cond, List, [], ◌∷◌, map, length, Some, None, Option, nat_lt}
use Rattle.std.specs.Option.{unwrap_or}
use Rattle.cells.specs.declared.emit_to.EmitTo.{EmitTo}
use Rattle.cells.specs.declared.emit_to.EmitTo.TheVariants.{All, First}
use Rattle.cells.specs.Rows.{CellOf}
use Rattle.cells.specs.Emits.{emitted, left}
use Rattle.group_by.specs.Groupings.{masked_key}
use Rattle.group_values.specs.Tables.{interned, placed}
use Rattle.accumulators.specs.Groups.{updated}
use Rattle.order.specs.Orders.{Order, start as unordered, opened, removed}
use Rattle.order.specs.Skip.{Probe}
use Rattle.model.specs.Questions.{all_masked}
use Rattle.model.specs.Setups.{Setup, first_probe, num_sets, row_key, out_row}

-- the groups that are held: their keys and states in order, and what is known of their order
pub record Groups (S : Type 0) : Type 0 where
  pub keys : List (List CellOf)
  pub states : List S
  pub order : Order

-- what the next call finds: rows are grouped; rows wait, to be handed out in one piece or not; rows are passed on
-- ungrouped; or all is over
pub data Phase : Type 0 where
  grouping : Phase
  waiting : List (List CellOf) → Bool → Phase
  bypassing : Phase
  stopped : Phase

pub record Model (S : Type 0) : Type 0 where
  pub held : Groups S
  pub probe : Option Probe
  pub phase : Phase
  -- the end step has run
  pub ended : Bool
  -- the input is finished
  pub closing : Bool
  -- how many rows were accepted
  pub rows : ℕ

module _ {S : Type 0} where
  abbrev pub groups : List (List CellOf) → List S → Order → Groups S
  groups ks ss o = record { keys = ks; states = ss; order = o }

  abbrev pub with_phase : Model S → Phase → Model S
  with_phase m p = record { held = m.held; probe = m.probe; phase = p; ended = m.ended; closing = m.closing; rows = m.rows }

  abbrev pub with_held : Model S → Groups S → Model S
  with_held m g = record { held = g; probe = m.probe; phase = m.phase; ended = m.ended; closing = m.closing; rows = m.rows }

  abbrev pub with_probe : Model S → Option Probe → Model S
  with_probe m p = record { held = m.held; probe = p; phase = m.phase; ended = m.ended; closing = m.closing; rows = m.rows }

  abbrev pub with_rows : Model S → ℕ → Model S
  with_rows m n = record { held = m.held; probe = m.probe; phase = m.phase; ended = m.ended; closing = m.closing; rows = n }

  abbrev pub as_ended : Model S → Model S
  as_ended m = record { held = m.held; probe = m.probe; phase = m.phase; ended = true; closing = m.closing; rows = m.rows }

  abbrev pub as_closing : Model S → Model S
  as_closing m = record { held = m.held; probe = m.probe; phase = m.phase; ended = m.ended; closing = true; rows = m.rows }

  -- how many groups are held
  abbrev pub count : Model S → ℕ
  count m = length m.held.keys

-- the keys of some rows, interned one after the other
abbrev pub interned_all : (List CellOf → Bool) → List (List CellOf) → List (List CellOf) → List (List CellOf)
interned_all admitted keys [] = keys
interned_all admitted keys (k ∷ ks) = interned_all admitted (interned admitted keys k) ks

-- the place that each is given; one that is given none gets 512, where no group is
abbrev pub placed_all : (List CellOf → Bool) → List (List CellOf) → List (List CellOf) → List ℕ
placed_all admitted keys [] = []
placed_all admitted keys (k ∷ ks) = unwrap_or (placed admitted keys k) 512 ∷ placed_all admitted (interned admitted keys k) ks

-- the order learns of the groups that a batch has opened
abbrev pub reordered : Order → ℕ → List (List CellOf) → List ℕ → ℕ → Order
reordered o before keys places total = cond (nat_lt before total) (opened o keys places total) o

abbrev pub removed_by : EmitTo → Order → Order
removed_by All o = o
removed_by (First n) o = removed o n

abbrev pub none : {X : Type 0} → List X → Bool
none [] = true
none (x ∷ xs) = false

abbrev pub says : Option Probe → Bool
says None = false
says (Some p) = p.skips

-- the groups that an emission leaves
abbrev pub shed : {S : Type 0} → EmitTo → Groups S → Groups S
shed to g = groups (left to g.keys) (left to g.states) (removed_by to g.order)

module _ {S : Type 0} (u : Setup S) where
  abbrev pub start : Model S
  start = record {
    held = groups [] [] (unordered u.settings.order);
    probe = first_probe u.settings;
    phase = grouping;
    ended = false;
    closing = false;
    rows = 0;
  }

  -- the rows are interned and accumulated under their keys for one set
  abbrev pub absorbed_keys : Groups S → List (List CellOf) → List (List CellOf) → Groups S
  absorbed_keys g keys rows =
      let after = interned_all u.admitted g.keys keys in
      let places = placed_all u.admitted g.keys keys in
      groups after
      (updated u.aggregation u.settings.exprs rows places (length after) g.states)
      (reordered g.order (length g.keys) keys places (length after))

  abbrev pub absorbed_set : Groups S → List (List CellOf) → ℕ → Groups S
  absorbed_set g rows s = absorbed_keys g (map (row_key u.settings s) rows) rows

  -- the same for n sets from the s-th on
  abbrev pub absorbed_from : Groups S → List (List CellOf) → ℕ → ℕ → Groups S
  absorbed_from g rows s zero = g
  absorbed_from g rows s (suc n) = absorbed_from (absorbed_set g rows s) rows (s + 1) n

  abbrev pub absorbed : Groups S → List (List CellOf) → Groups S
  absorbed g rows = absorbed_from g rows 0 (num_sets u.settings)

  -- each key with the state at its place
  abbrev pub beside : List (List CellOf) → List S → List (List CellOf × S)
  beside [] ss = []
  beside (k ∷ ks) [] = (k, u.aggregation.neutral) ∷ beside ks []
  beside (k ∷ ks) (s ∷ ss) = (k, s) ∷ beside ks ss

  abbrev pub held_pairs : Groups S → List (List CellOf × S)
  held_pairs g = beside g.keys g.states

  abbrev pub out_rows : List (List CellOf × S) → List (List CellOf)
  out_rows ps = map (λ p. out_row u p.0 p.1) ps

  -- the rows that an emission hands out
  abbrev pub emission : EmitTo → Groups S → List (List CellOf)
  emission to g = out_rows (emitted to (held_pairs g))

  -- groups go to wait
  abbrev pub emits : EmitTo → Model S → Model S
  emits to m = with_phase (with_held m (shed to m.held)) (waiting (emission to m.held) false)

  -- the keys of the sets of which every column is masked
  abbrev pub grand_keys_from : ℕ → List (List Bool) → List (List CellOf)
  grand_keys_from s [] = []
  grand_keys_from s (marks ∷ sets) =
      cond (all_masked marks) (masked_key u.settings.group_by s ∷ grand_keys_from (s + 1) sets) (grand_keys_from (s + 1) sets)

  -- without grouping sets there are none
  abbrev pub grand_keys : List (List CellOf)
  grand_keys = cond u.settings.group_by.grouped (grand_keys_from 0 u.settings.group_by.sets) []

  -- where no group is held, one for each wholly masked set is made, with a neutral state
  abbrev pub totalled : Groups S → Groups S
  totalled g =
      cond (none g.keys)
      (groups (interned_all u.admitted g.keys grand_keys)
      (updated u.aggregation u.settings.exprs [] [] (length (interned_all u.admitted g.keys grand_keys)) g.states)
      g.order)
      g

  -- the rows of a batch as they are passed on ungrouped
  abbrev pub converted : List (List CellOf) → List (List CellOf)
  converted rows = map (λ row. out_row u (row_key u.settings 0 row) (u.aggregation.own u.settings.exprs row)) rows
