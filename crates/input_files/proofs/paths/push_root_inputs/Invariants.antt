use Rattle.std.proofs.Common.{◌≡◌, ◌++◌, take}
use Rattle.input_files.specs.Paths.{root_adds}
use Rattle.input_files.proofs.paths.push_root_inputs.Given as goal

abbrev pub invariant-loop-input : goal.invariant-loop-input
invariant-loop-input g l = l.paths ≡ l.initial.paths ++ root_adds g.P.Parameter.of (take l.input-index l.inputs) l.given
