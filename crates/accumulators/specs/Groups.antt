-- What a batch makes of the states of the groups. Assumes nothing.
use Rattle.std.specs.Prelude.{ℕ, ◌+◌, ◌-◌, min, cond, List, [], ◌∷◌, ◌++◌, length, replicate, nat_lt, slice_index_or, slice_set}
use Rattle.cells.specs.Rows.{CellOf}
use Rattle.aggregates.specs.declared.aggregate_expr.AggregateExpr.{AggregateExpr}
use Rattle.accumulators.specs.Aggregations.{Aggregation}

-- ss, and as many more of e as it takes to be n
abbrev pub grown : {S : Type 0} → S → ℕ → List S → List S
grown e n ss = ss ++ replicate (n - length ss) e

-- the state s goes behind that of the group at a place below n; another place is passed over
abbrev pub fed : {S : Type 0} → Aggregation S → ℕ → ℕ → S → List S → List S
fed a n place s ss = cond (nat_lt place n) (slice_set ss place (a.join (slice_index_or ss place a.neutral) s)) ss

-- the rows from the i-th on, each to the next of the places
abbrev pub fed_from : {S : Type 0} → Aggregation S → List AggregateExpr → List (List CellOf) → ℕ → ℕ → List S → List ℕ → List S
fed_from a exprs rows n i ss [] = ss
fed_from a exprs rows n i ss (place ∷ places) =
    fed_from a exprs rows n (i + 1) (fed a n place (a.own exprs (slice_index_or rows i [])) ss) places

-- room for total groups, which are at most 512, and then the batch row by row
abbrev pub updated : {S : Type 0} → Aggregation S → List AggregateExpr → List (List CellOf) → List ℕ → ℕ → List S → List S
updated a exprs rows places total ss =
    fed_from a exprs rows (min total 512) 0 (grown a.neutral (min total 512) ss) places

-- two lists of states as one, the shorter followed by neutral states
abbrev pub side_by_side : {S T : Type 0} → S → T → List S → List T → List (S × T)
side_by_side e f [] [] = []
side_by_side e f [] (t ∷ ts) = (e, t) ∷ side_by_side e f [] ts
side_by_side e f (s ∷ ss) [] = (s, f) ∷ side_by_side e f ss []
side_by_side e f (s ∷ ss) (t ∷ ts) = (s, t) ∷ side_by_side e f ss ts
