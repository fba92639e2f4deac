use Rattle.std.proofs.Common.{◌≡◌, ◌∙◌, ap, sym, subst}
use Rattle.std.specs.Prelude.{None, OnOk, IfErr}
use Rattle.workflow_check.specs.Checked.{fault_in}
use Rattle.workflow_check.specs.Faults.{IsErrorOf}
use Rattle.workflow_check.proofs.Nested.{of_tool, of_workflow}
use Rattle.workflow_check.proofs.levels.+levels.Goals as goal

pub check_process-returns-in-Tool-clause-ok : goal.check_process-returns-in-Tool-clause-ok
check_process-returns-in-Tool-clause-ok t c = ap fault_in c.in-Tool.is ∙ of_tool c.in-Tool.field-0

pub check_process-returns-in-Workflow-clause-ok : goal.check_process-returns-in-Workflow-clause-ok
check_process-returns-in-Workflow-clause-ok t c =
    subst (λ found. OnOk c.check_workflow.result (found ≡ None)) (sym (ap fault_in c.in-Workflow.is ∙ of_workflow c.in-Workflow.workflow)) c.check_workflow.ensures.ok

pub check_process-returns-in-Workflow-clause-err : goal.check_process-returns-in-Workflow-clause-err
check_process-returns-in-Workflow-clause-err t c =
    subst (λ found. IfErr c.check_workflow.result (IsErrorOf found)) (sym (ap fault_in c.in-Workflow.is ∙ of_workflow c.in-Workflow.workflow)) c.check_workflow.ensures.err
