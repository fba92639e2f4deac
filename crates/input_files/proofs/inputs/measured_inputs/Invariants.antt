use Rattle.std.proofs.Common.{◌≡◌, take}
use Rattle.input_files.specs.Inputs.{measured_inputs}
use Rattle.input_files.proofs.inputs.measured_inputs.Given as goal

abbrev pub invariant-loop-input : goal.invariant-loop-input
invariant-loop-input l = l.named ≡ measured_inputs l.measures (take l.input-index l.inputs) l.given
