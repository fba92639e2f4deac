use Rattle.std.proofs.Common.{◌≡◌, ◌++◌, drop, map}
use Rattle.cwl_process.specs.Simple.{value_seen}
use Rattle.cwl_process.specs.Templates.{template_in}
use Rattle.cwl_process.proofs.templates.read_templates.Given as goal

abbrev pub invariant-loop-value : goal.invariant-loop-value
invariant-loop-value l = l.templates ++ map template_in (map value_seen (drop l.value-index l.found)) ≡ map template_in (map value_seen l.found)
