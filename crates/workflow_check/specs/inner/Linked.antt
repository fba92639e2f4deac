-- For private clauses: what is wrong with the links of a workflow.
use Rattle.cwl_process.specs.declared.workflow.WorkflowOutput.{WorkflowOutput}
use Rattle.workflow_check.specs.Faults.{Found, or_next}
use Rattle.workflow_check.specs.Links.{Around, outputs_fault, steps_fault}
use Rattle.workflow_check.specs.Order.{order_fault}
use Rattle.workflow_check.specs.Scope.{Named}

-- the faults of one workflow after those of how its steps are run
abbrev pub links_fault : Around → Named WorkflowOutput → Found
links_fault around outputs = or_next (steps_fault around around.steps) (or_next (outputs_fault around outputs) (order_fault around.steps))
