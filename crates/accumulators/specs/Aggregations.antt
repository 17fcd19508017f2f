-- What an accumulator of one or more aggregates keeps of a group, and the laws of it. Assumes nothing.
use Rattle.std.specs.Prelude.{◌≡◌, ℕ, ◌+◌, List, [], ◌∷◌, ◌++◌, length, take, drop, None}
use Rattle.std.specs.List.{AllByRecursion}
use Rattle.cells.specs.Rows.{CellOf}
use Rattle.aggregates.specs.declared.aggregate_expr.AggregateExpr.{AggregateExpr}
use Rattle.aggregates.specs.Arguments.{argument_of, first_argument}
use Rattle.aggregates.specs.Kinds.{Kind}

pub record Aggregation (S : Type 0) : Type 1 where
  -- what a group holds before its first row
  pub neutral : S
  -- the later state goes behind
  pub join : S → S → S
  -- the state of one row alone, by the columns of the aggregates and the row's cells
  pub own : List AggregateExpr → List CellOf → S
  -- holds of the states that code holds
  pub sound : S → Type 0
  -- a state as cells, and back
  pub shows : S → List CellOf
  pub reads : List CellOf → S
  -- one cell for each aggregate
  pub results : S → List CellOf
  pub state_cells : ℕ
  pub aggregates : ℕ

pub record Lawful {S : Type 0} (a : Aggregation S) : Type 0 where
  pub assoc : (s t u : S) → a.join (a.join s t) u ≡ a.join s (a.join t u)
  pub neutral_left : (s : S) → a.sound s → a.join a.neutral s ≡ s
  pub neutral_right : (s : S) → a.sound s → a.join s a.neutral ≡ s
  pub neutral_sound : a.sound a.neutral
  pub join_sound : (s t : S) → a.sound s → a.sound t → a.sound (a.join s t)
  pub own_sound : (exprs : List AggregateExpr) (row : List CellOf) → a.sound (a.own exprs row)
  -- a row without arguments changes nothing
  pub own_absent : (exprs : List AggregateExpr) (row : List CellOf)
      → AllByRecursion (λ e. argument_of e row ≡ None) exprs → a.own exprs row ≡ a.neutral
  pub shows_length : (s : S) → length (a.shows s) ≡ a.state_cells
  pub reads_shows : (s : S) → a.sound s → a.reads (a.shows s) ≡ s
  pub reads_sound : (cs : List CellOf) → a.sound (a.reads cs)
  pub results_length : (s : S) → length (a.results s) ≡ a.aggregates

-- one aggregate, of the first columns named
abbrev pub of_kind : {S : Type 0} → Kind S → Aggregation S
of_kind k = record {
  neutral = k.neutral;
  join = k.join;
  own = λ exprs row. k.own (first_argument exprs row);
  sound = k.sound;
  shows = k.shows;
  reads = k.reads;
  results = λ s. k.result s ∷ [];
  state_cells = k.cells;
  aggregates = 1;
}

-- two side by side: columns, cells and results of the first stand before those of the second
abbrev pub paired : {S T : Type 0} → Aggregation S → Aggregation T → Aggregation (S × T)
paired a b = record {
  neutral = (a.neutral, b.neutral);
  join = λ s t. (a.join s.0 t.0, b.join s.1 t.1);
  own = λ exprs row. (a.own (take a.aggregates exprs) row, b.own (drop a.aggregates exprs) row);
  sound = λ s. a.sound s.0 × b.sound s.1;
  shows = λ s. a.shows s.0 ++ b.shows s.1;
  reads = λ cs. (a.reads (take a.state_cells cs), b.reads (drop a.state_cells cs));
  results = λ s. a.results s.0 ++ b.results s.1;
  state_cells = a.state_cells + b.state_cells;
  aggregates = a.aggregates + b.aggregates;
}
