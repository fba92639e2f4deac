use Rattle.workflow_engine.proofs.OneBeginning.{begins_so}
use Rattle.workflow_engine.proofs.laws.runs_begin_with_the_first_plan.Goals as goal

pub returns : goal.returns
returns c = λ setting t f plans places graph marks first goes. begins_so setting t f plans goes first
