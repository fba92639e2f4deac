use Rattle.std.proofs.Common.{◌≡◌, ◌++◌, drop, map}
use Rattle.cwl_process.specs.Simple.{value_seen}
use Rattle.cwl_process.specs.Simple.{name_in}
use Rattle.cwl_process.proofs.simple.read_names.Given as goal

abbrev pub invariant-loop-value : goal.invariant-loop-value
invariant-loop-value l = l.names ++ map name_in (map value_seen (drop l.value-index l.found)) ≡ map name_in (map value_seen l.found)
