use Rattle.std.proofs.Common.{◌≡◌, ◌++◌, drop, map}
use Rattle.cwl_process.specs.Simple.{value_seen}
use Rattle.cwl_process.specs.Bindings.{secondary_in}
use Rattle.cwl_process.proofs.bindings.read_secondaries.Given as goal

abbrev pub invariant-loop-value : goal.invariant-loop-value
invariant-loop-value l = l.files ++ map (secondary_in l.absent) (map value_seen (drop l.value-index l.found)) ≡ map (secondary_in l.absent) (map value_seen l.found)
