use Rattle.std.proofs.Common.{◌≡◌, drop}
use Rattle.workflow_check.specs.Faults.{first_of}
use Rattle.plain_data.specs.ByName.{map_values}
use Rattle.workflow_check.specs.Links.{other_fault}
use Rattle.workflow_check.specs.Scope.{workflow_asked}
use Rattle.workflow_check.proofs.linking.check_workflow_inputs.Given as goal

abbrev pub invariant-loop-input : goal.invariant-loop-input
invariant-loop-input l = first_of (other_fault l.fn.entries) (map_values workflow_asked (drop l.input-index l.input-items)) ≡ first_of (other_fault l.fn.entries) (map_values workflow_asked l.fn.inputs)
