use Rattle.std.proofs.Common.{◌≡◌, ◌++◌, take}
use Rattle.input_files.specs.Paths.{paths_of_defaults}
use Rattle.input_files.proofs.paths.push_defaults.Given as goal

abbrev pub invariant-loop-input : goal.invariant-loop-input
invariant-loop-input g l = l.paths ≡ l.initial.paths ++ paths_of_defaults g.P.Parameter.of (take l.input-index l.inputs)
