use Rattle.std.proofs.Common.{◌≡◌, map, string_bytes, take}
use Rattle.input_forms.specs.Lines.{tool_line}
use Rattle.input_forms.proofs.lines.tool_lines.Given as goal

abbrev pub invariant-loop-name : goal.invariant-loop-name
invariant-loop-name l = map string_bytes l.lines.items ≡ map tool_line (take l.name-index l.inputs)
