use Rattle.workflow_check.proofs.Ordered.{order}
use Rattle.workflow_check.proofs.laws.steps_have_an_order.Goals as goal

pub returns : goal.returns
returns c = order
