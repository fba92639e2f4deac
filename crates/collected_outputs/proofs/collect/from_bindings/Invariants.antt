use Rattle.std.proofs.Common.{Ok, take}
use Rattle.collected_outputs.specs.Outputs.{AreOutputs}
use Rattle.collected_outputs.specs.inner.Steps.{left_of}
use Rattle.collected_outputs.proofs.collect.from_bindings.Given as goal

abbrev pub invariant-loop-output : goal.invariant-loop-output
invariant-loop-output l = AreOutputs (left_of l.folder) (take l.output-index l.output-items) (Ok l.outputs)
