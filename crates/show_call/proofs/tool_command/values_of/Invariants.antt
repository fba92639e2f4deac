use Rattle.std.proofs.Common.{◌≡◌, take}
use Rattle.input_files.specs.Given.{named_inputs}
use Rattle.show_call.proofs.tool_command.values_of.Given as goal

abbrev pub invariant-loop-name : goal.invariant-loop-name
invariant-loop-name l = l.values ≡ named_inputs (take l.name-index l.inputs) l.given
