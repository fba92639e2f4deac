use Rattle.std.proofs.Common.{◌≡◌, ◌++◌, drop, map}
use Rattle.cwl_process.specs.Simple.{value_seen}
use Rattle.cwl_process.specs.Workflows.{step_output_in}
use Rattle.cwl_process.proofs.read_workflow.read_step_outputs.Given as goal

abbrev pub invariant-loop-value : goal.invariant-loop-value
invariant-loop-value l = l.outputs ++ map step_output_in (map value_seen (drop l.value-index l.found)) ≡ map step_output_in (map value_seen l.found)
