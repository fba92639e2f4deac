use Rattle.plan_waits.proofs.OpenSteps.{open_steps_are_open}
use Rattle.plan_waits.proofs.waiting.open_steps_are_open.Goals as goal

pub returns : goal.returns
returns c = open_steps_are_open
