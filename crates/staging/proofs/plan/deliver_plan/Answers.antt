use Rattle.staging.proofs.Erasing.{if_same}
use Rattle.staging.proofs.plan.deliver_plan.Goals as goal

pub returns-clause-same : goal.returns-clause-same
returns-clause-same c = if_same _ _ c.args.outputs.now c.plan.result c.plan.ensures
