use Rattle.std.proofs.Common.{◌≡◌, drop}
use Rattle.input_files.specs.Inputs.{first_fault}
use Rattle.input_files.proofs.inputs.first_fault.Given as goal

abbrev pub invariant-loop-input : goal.invariant-loop-input
invariant-loop-input l = first_fault l.measures l.given l.inputs ≡ first_fault l.measures l.given (drop l.input-index l.inputs)
