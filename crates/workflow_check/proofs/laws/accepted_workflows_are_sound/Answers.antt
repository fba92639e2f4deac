use Rattle.workflow_check.proofs.Facts.{sound}
use Rattle.workflow_check.proofs.laws.accepted_workflows_are_sound.Goals as goal

pub returns : goal.returns
returns c = sound
