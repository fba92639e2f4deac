use Rattle.job_graph.proofs.laws_of_walks.Learned.{result_is_eval}
use Rattle.job_graph.proofs.laws.results_are_eval.Goals as goal

pub returns : goal.returns
returns c = λ key world process given measures learned outputs rightly is. result_is_eval key world process given measures learned rightly outputs is
