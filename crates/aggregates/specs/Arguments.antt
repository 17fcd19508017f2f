-- The argument that a row gives an aggregate. Assumes nothing.
use Rattle.std.specs.Prelude.{ℕ, zero, suc, Bool, true, false, cond, List, [], ◌∷◌, pos, negsuc, Some, None, Option, slice_index_or}
use Rattle.cells.specs.Rows.{CellOf}
use Rattle.aggregates.specs.declared.aggregate_expr.AggregateExpr.{AggregateExpr}

-- a filter's cell passes its row where it is present and not 0
abbrev pub is_true : CellOf → Bool
is_true None = false
is_true (Some (pos zero)) = false
is_true (Some (pos (suc n))) = true
is_true (Some (negsuc n)) = true

-- no filter passes every row
abbrev pub passes : Option ℕ → List CellOf → Bool
passes None row = true
passes (Some column) row = is_true (slice_index_or row column None)

-- absent where the filter fails
abbrev pub argument_of : AggregateExpr → List CellOf → CellOf
argument_of e row = cond (passes e.filter row) (slice_index_or row e.argument None) None

-- the argument of the first aggregate; absent where none is named
abbrev pub first_argument : List AggregateExpr → List CellOf → CellOf
first_argument [] row = None
first_argument (e ∷ exprs) row = argument_of e row
