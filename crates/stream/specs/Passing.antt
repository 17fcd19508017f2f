-- When a stream passes rows on ungrouped. Assumes nothing.
use Rattle.std.specs.Prelude.{Bool, true, false}
use Rattle.stream.specs.declared.state.ExecutionState.{ExecutionState}
use Rattle.stream.specs.declared.state.ExecutionState.TheVariants.{ReadingInput, ProducingOutput, SkippingAggregation, Done}

abbrev pub passes_on : ExecutionState → Bool
passes_on ReadingInput = false
passes_on (ProducingOutput whole) = false
passes_on SkippingAggregation = true
passes_on Done = false
