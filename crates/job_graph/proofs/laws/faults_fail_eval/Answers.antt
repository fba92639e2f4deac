use Rattle.job_graph.proofs.laws_of_walks.Learned.{fault_is_eval}
use Rattle.job_graph.proofs.laws.faults_fail_eval.Goals as goal

pub returns : goal.returns
returns c = λ key world process given measures learned place cause rightly is. fault_is_eval key world process given measures learned rightly place cause is
