use Rattle.job_graph.proofs.laws_of_walks.Learned.{learned_result}
use Rattle.job_graph.proofs.laws.learned_results_stay.Goals as goal

pub returns : goal.returns
returns c = learned_result
