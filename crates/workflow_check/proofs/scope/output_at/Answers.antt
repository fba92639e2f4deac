use Rattle.std.proofs.Common.{◌∙◌, ap, sym}
use Rattle.plain_data.specs.ByName.{value_at}
use Rattle.workflow_check.specs.inner.Ports.{given_under}
use Rattle.workflow_check.proofs.scope.output_at.Goals as goal

pub returns-in-Tool : goal.returns-in-Tool
returns-in-Tool c = c.tool_output_at.ensures ∙ sym (ap (λ p. value_at c.args.id.now (given_under p)) c.in-Tool.is)

pub returns-in-Workflow : goal.returns-in-Workflow
returns-in-Workflow c = c.workflow_output_at.ensures ∙ sym (ap (λ p. value_at c.args.id.now (given_under p)) c.in-Workflow.is)
