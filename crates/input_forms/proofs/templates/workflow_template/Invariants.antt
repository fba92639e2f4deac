use Rattle.std.proofs.Common.{◌≡◌, codes, map, string_bytes, take}
use Rattle.std.specs.List.{fold}
use Rattle.input_forms.specs.Templates.{workflow_entry, with_entry}
use Rattle.input_forms.proofs.templates.workflow_template.Given as goal

abbrev pub invariant-loop-name : goal.invariant-loop-name
invariant-loop-name l = string_bytes l.text ≡ fold with_entry (codes "{") (map workflow_entry (take l.name-index l.inputs))
