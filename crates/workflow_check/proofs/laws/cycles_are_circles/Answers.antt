use Rattle.workflow_check.proofs.Circle as circle
use Rattle.workflow_check.proofs.laws.cycles_are_circles.Goals as goal

pub returns : goal.returns
returns c = circle.cycles_are_circles
