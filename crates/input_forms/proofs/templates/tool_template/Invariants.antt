use Rattle.std.proofs.Common.{◌≡◌, codes, map, string_bytes, take}
use Rattle.std.specs.List.{fold}
use Rattle.input_forms.specs.Templates.{tool_entry, with_entry}
use Rattle.input_forms.proofs.templates.tool_template.Given as goal

abbrev pub invariant-loop-name : goal.invariant-loop-name
invariant-loop-name l = string_bytes l.text ≡ fold with_entry (codes "{") (map tool_entry (take l.name-index l.inputs))
