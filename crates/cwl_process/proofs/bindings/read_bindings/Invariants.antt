use Rattle.std.proofs.Common.{◌≡◌, ◌++◌, drop, map}
use Rattle.cwl_process.specs.Simple.{value_seen}
use Rattle.cwl_process.specs.Bindings.{binding_in}
use Rattle.cwl_process.proofs.bindings.read_bindings.Given as goal

abbrev pub invariant-loop-value : goal.invariant-loop-value
invariant-loop-value l = l.bindings ++ map binding_in (map value_seen (drop l.value-index l.found)) ≡ map binding_in (map value_seen l.found)
