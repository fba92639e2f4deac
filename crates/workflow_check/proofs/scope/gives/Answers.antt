use Rattle.std.proofs.Common.{◌∙◌, ap, sym}
use Rattle.workflow_check.specs.Scope.{has}
use Rattle.workflow_check.specs.inner.Ports.{given_under}
use Rattle.workflow_check.proofs.Named.{has_of_map}
use Rattle.workflow_check.proofs.scope.gives.Goals as goal

pub returns-in-Tool : goal.returns-in-Tool
returns-in-Tool c = c.has.ensures ∙ sym (ap (λ p. has c.args.id.now (given_under p)) c.in-Tool.is ∙ has_of_map _ c.args.id.now _)

pub returns-in-Workflow : goal.returns-in-Workflow
returns-in-Workflow c = c.has-in-Workflow.ensures ∙ sym (ap (λ p. has c.args.id.now (given_under p)) c.in-Workflow.is ∙ has_of_map _ c.args.id.now _)
