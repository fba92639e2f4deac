use Rattle.std.proofs.Common.{◌≡◌, drop}
use Rattle.document_links.specs.declared.process.Workflow.{out-Workflow}
use Rattle.workflow_check.specs.Checked.{fault_in_step}
use Rattle.workflow_check.specs.Faults.{first_of}
use Rattle.workflow_check.proofs.levels.+levels.Given as goal

abbrev pub invariant-check_inner-loop-entry : goal.invariant-check_inner-loop-entry
invariant-check_inner-loop-entry l = first_of fault_in_step (drop l.entry-index l.entry-items) ≡ first_of fault_in_step (out-Workflow l.fn.workflow).steps
