-- The law over runs: what holds of every run, wherever it breaks off. Assumes nothing.
use Rattle.std.specs.Prelude.{◌≡◌, ℕ, zero, suc, ◌+◌, ◌<◌, true, false, cond, List, [], ◌∷◌, ◌++◌, map, length, take, drop, None, slice_index_or}
use Rattle.std.specs.List.Sorted.{IsPermutation}
use Rattle.cells.specs.Rows.{CellOf}
use Rattle.cells.specs.Same.{same_key}
use Rattle.group_by.specs.Sets.{IdsDiffer}
use Rattle.accumulators.specs.Aggregations.{Lawful}
use Rattle.order.specs.Runs.{sort_key}
use Rattle.order.specs.Orders.{Mode, linear, sorted, partially}
use Rattle.model.specs.Setups.{Setup, num_sets, key_width, row_key, need, own}
use Rattle.model.specs.Questions.{settings_fault}
use Rattle.model.specs.Machine.{Model, count, held_pairs, grand_keys}
use Rattle.model.specs.Runs.{Reservation, Event, accepted_rows, handed_out, waiting_in, Done}
use Rattle.model.specs.Sql.{total, group_rows}

module _ {S : Type 0} (u : Setup S) where
  -- ---- by key

  abbrev pub key_part : List CellOf → List CellOf
  key_part row = take (key_width u.settings) row

  -- the states in rows that have the key
  abbrev pub states_in : List CellOf → List (List CellOf) → List S
  states_in k [] = []
  states_in k (row ∷ rows) =
      cond (same_key (key_part row) k) (u.aggregation.reads (drop (key_width u.settings) row) ∷ states_in k rows) (states_in k rows)

  -- the states held under the key
  abbrev pub states_held : List CellOf → List (List CellOf × S) → List S
  states_held k [] = []
  states_held k (p ∷ ps) = cond (same_key p.0 k) (p.1 ∷ states_held k ps) (states_held k ps)

  -- a row's own state, for each of n sets from the s-th on under which it has the key
  abbrev pub own_from : List CellOf → List CellOf → ℕ → ℕ → List S
  own_from k row s zero = []
  own_from k row s (suc n) = cond (same_key (row_key u.settings s row) k) (own u row ∷ own_from k row (s + 1) n) (own_from k row (s + 1) n)

  -- the own states of the rows that have the key, row by row
  abbrev pub owns : List CellOf → List (List CellOf) → List S
  owns k [] = []
  owns k (row ∷ rows) = own_from k row 0 (num_sets u.settings) ++ owns k rows

  -- ---- a declared order

  abbrev pub sorted_by : Mode → List CellOf → List CellOf
  sorted_by linear key = key
  sorted_by sorted key = key
  sorted_by (partially positions) key = sort_key positions key

  -- equal elements form one unbroken run
  abbrev pub Unbroken : List (List CellOf) → Type 0
  Unbroken ks = (i j l : ℕ) → i < j → j < l → l < length ks → slice_index_or ks i [] ≡ slice_index_or ks l [] → slice_index_or ks j [] ≡ slice_index_or ks i []

  -- no order is declared, or the accepted rows have it
  abbrev pub TrueOrder : Mode → List (List CellOf) → Type 0
  TrueOrder linear rows = Unit {0}
  TrueOrder sorted rows = Unbroken (map (λ row. sorted_by sorted (row_key u.settings 0 row)) rows)
  TrueOrder (partially positions) rows = Unbroken (map (λ row. sorted_by (partially positions) (row_key u.settings 0 row)) rows)

  -- SQL's grand totals: a row for each wholly masked set, with the result of no rows
  abbrev pub grand_totals : List (List CellOf)
  grand_totals = map (λ k. k ++ u.aggregation.results u.aggregation.neutral) (grand_keys u)

-- what is assumed of a setup: the accumulator's laws, settings that passed their questions, and ids that differ
pub record Sensible {S : Type 0} (u : Setup S) : Type 0 where
  pub lawful : Lawful u.aggregation
  pub asked : settings_fault u true ≡ None
  pub numbered : u.settings.group_by.grouped ≡ true → IdsDiffer u.settings.group_by.sets

-- What holds of a run's history, the stream and the reservation that it led to
pub record Law {S R : Type 0} (u : Setup S) (w : Reservation R) (h : List Event) (m : Model S) (r : R) : Type 0 where
  -- nothing is lost or booked under another key: in Partial mode each key's states handed out, then waiting, then held,
  -- joined in that order, are the join of its accepted rows
  pub lossless : u.settings.partial ≡ true → (k : List CellOf)
      → total u.aggregation (states_in u k (handed_out h ++ waiting_in m.phase) ++ states_held u k (held_pairs u m.held))
      ≡ total u.aggregation (owns u k (accepted_rows u.settings.columns h))
  -- and once the stream is done those handed out alone are
  pub lossless_done : u.settings.partial ≡ true → Done m → (k : List CellOf)
      → total u.aggregation (states_in u k (handed_out h)) ≡ total u.aggregation (owns u k (accepted_rows u.settings.columns h))
  -- whole results: a done stream in Single mode has handed out the rows of SQL's groups, each once, in some order
  pub whole : u.settings.partial ≡ false → TrueOrder u u.settings.order (accepted_rows u.settings.columns h) → Done m
      → IsPermutation (group_rows u.settings.group_by u.aggregation u.settings.exprs (accepted_rows u.settings.columns h)) (handed_out h)
  -- and where no row was accepted, exactly the grand totals
  pub grand : u.settings.partial ≡ false → accepted_rows u.settings.columns h ≡ [] → Done m → handed_out h ≡ grand_totals u
  -- the memory account: exactly what the held groups need, or less while the last answer is no
  pub exact : w.granted r ≡ true → w.bytes r ≡ need u (count m)
  pub short : w.granted r ≡ false → w.bytes r < need u (count m)
  pub freed : Done m → w.bytes r ≡ 0
