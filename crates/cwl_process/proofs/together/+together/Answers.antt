use Rattle.std.proofs.Common.{sym, ◌∙◌}
use Rattle.serde_json.specs.View.{view}
use Rattle.cwl_process.proofs.Levels.{fault_at_tool, fault_at_workflow, ok_same}
use Rattle.cwl_process.proofs.together.+together.Goals as goal

pub process_fault-returns-then-is_workflow : goal.process_fault-returns-then-is_workflow
process_fault-returns-then-is_workflow t c =
    ok_same _ _ _ (sym (fault_at_workflow c.args.levels (view c.args.value.now) c.if-levels-eq0.false (sym c.is_workflow.ensures ∙ c.if-is_workflow.true))) c.workflow_fault.ensures

pub process_fault-returns : goal.process_fault-returns
process_fault-returns t c =
    ok_same _ _ _ (sym (fault_at_tool c.args.levels (view c.args.value.now) c.if-levels-eq0.false (sym c.is_workflow.ensures ∙ c.if-is_workflow.false))) c.tool_fault.ensures
