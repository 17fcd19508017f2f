-- GROUP BY and GROUPING SETS: which groups some rows make, and the row of each. Knows nothing of streams. Assumes nothing.
use Rattle.std.specs.Prelude.{ℕ, ◌+◌, Bool, cond, ◌&&◌, List, [], ◌∷◌, ◌++◌, map}
use Rattle.cells.specs.Rows.{CellOf}
use Rattle.cells.specs.Same.{same_key}
use Rattle.group_by.specs.Groupings.{GroupBy, key_of, masked_key}
use Rattle.aggregates.specs.declared.aggregate_expr.AggregateExpr.{AggregateExpr}
use Rattle.accumulators.specs.Aggregations.{Aggregation}
use Rattle.model.specs.Questions.{all_masked}

-- the keys but for those like k
abbrev pub without : List CellOf → List (List CellOf) → List (List CellOf)
without k [] = []
without k (x ∷ xs) = cond (same_key x k) (without k xs) (x ∷ without k xs)

-- the different keys of a list, each once; absent cells are alike
abbrev pub apart : List (List CellOf) → List (List CellOf)
apart [] = []
apart (k ∷ ks) = k ∷ without k (apart ks)

-- states joined in order
abbrev pub total : {S : Type 0} → Aggregation S → List S → S
total a [] = a.neutral
total a (s ∷ ss) = a.join s (total a ss)

module _ {S : Type 0} (gb : GroupBy) (a : Aggregation S) (exprs : List AggregateExpr) where
  -- the own states of the rows that have the key under the s-th set
  abbrev pub states_under : ℕ → List CellOf → List (List CellOf) → List S
  states_under s key [] = []
  states_under s key (row ∷ rows) = cond (same_key (key_of gb s row) key) (a.own exprs row ∷ states_under s key rows) (states_under s key rows)

  -- the row of a group: its key, and its whole result
  abbrev pub group_row : ℕ → List (List CellOf) → List CellOf → List CellOf
  group_row s rows key = key ++ a.results (total a (states_under s key rows))

  -- the keys of the groups under the s-th set: the rows' keys, and where there are no rows that of the empty grouping set
  abbrev pub group_keys : ℕ → List Bool → List (List CellOf) → List (List CellOf)
  group_keys s marks [] = cond (gb.grouped && all_masked marks) (masked_key gb s ∷ []) []
  group_keys s marks (row ∷ rows) = apart (map (key_of gb s) (row ∷ rows))

  -- the rows of all groups, set by set: a set that stands twice counts twice
  abbrev pub group_rows_from : ℕ → List (List Bool) → List (List CellOf) → List (List CellOf)
  group_rows_from s [] rows = []
  group_rows_from s (marks ∷ sets) rows = map (group_row s rows) (group_keys s marks rows) ++ group_rows_from (s + 1) sets rows

  abbrev pub group_rows : List (List CellOf) → List (List CellOf)
  group_rows rows = group_rows_from 0 gb.sets rows
