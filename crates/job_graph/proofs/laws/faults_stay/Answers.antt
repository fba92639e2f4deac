use Rattle.job_graph.proofs.laws_of_walks.Learned.{fault_stays}
use Rattle.job_graph.proofs.laws.faults_stay.Goals as goal

pub returns : goal.returns
returns c = fault_stays
