use Rattle.std.proofs.Common.{◌∙◌, ap, sym}
use Rattle.plain_data.specs.ByName.{value_at}
use Rattle.workflow_check.specs.inner.Ports.{taken_under}
use Rattle.workflow_check.proofs.scope.input_at.Goals as goal

pub returns-in-Tool : goal.returns-in-Tool
returns-in-Tool c = c.tool_input_at.ensures ∙ sym (ap (λ p. value_at c.args.id.now (taken_under p)) c.in-Tool.is)

pub returns-in-Workflow : goal.returns-in-Workflow
returns-in-Workflow c = c.workflow_input_at.ensures ∙ sym (ap (λ p. value_at c.args.id.now (taken_under p)) c.in-Workflow.is)
