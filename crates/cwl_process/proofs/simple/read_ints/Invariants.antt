use Rattle.std.proofs.Common.{◌≡◌, ◌++◌, drop, map}
use Rattle.cwl_process.specs.Simple.{value_seen}
use Rattle.cwl_process.specs.Simple.{int_in}
use Rattle.cwl_process.proofs.simple.read_ints.Given as goal

abbrev pub invariant-loop-value : goal.invariant-loop-value
invariant-loop-value l = l.ints ++ map int_in (map value_seen (drop l.value-index l.found)) ≡ map int_in (map value_seen l.found)
