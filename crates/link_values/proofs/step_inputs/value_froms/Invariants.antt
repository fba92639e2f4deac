use Rattle.std.proofs.Common.{◌≡◌, drop}
use Rattle.link_values.specs.StepInputs.{value_froms, values_put}
use Rattle.link_values.proofs.step_inputs.value_froms.Given as goal

abbrev pub invariant-loop-input : goal.invariant-loop-input
invariant-loop-input l = values_put l.given (drop l.input-index l.inputs) l.values ≡ value_froms l.fn.inputs l.fn.given
