use Rattle.std.proofs.Common.{◌≡◌, take}
use Rattle.input_files.specs.Taken.{root_fields}
use Rattle.input_files.proofs.taken.root_fields.Given as goal

abbrev pub invariant-loop-input : goal.invariant-loop-input
invariant-loop-input g l = l.fields ≡ root_fields g.P.Parameter.of (take l.input-index l.inputs) l.given l.measures
