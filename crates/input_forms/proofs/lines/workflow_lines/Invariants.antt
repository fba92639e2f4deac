use Rattle.std.proofs.Common.{◌≡◌, map, string_bytes, take}
use Rattle.input_forms.specs.Lines.{workflow_line}
use Rattle.input_forms.proofs.lines.workflow_lines.Given as goal

abbrev pub invariant-loop-name : goal.invariant-loop-name
invariant-loop-name l = map string_bytes l.lines.items ≡ map workflow_line (take l.name-index l.inputs)
