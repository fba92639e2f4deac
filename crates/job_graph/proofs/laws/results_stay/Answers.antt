use Rattle.job_graph.specs.Inputs.{root_fields}
use Rattle.job_graph.proofs.laws_of_walks.Learned.{result_stays}
use Rattle.job_graph.proofs.laws.results_stay.Goals as goal

pub returns : goal.returns
returns c = λ process given measures made more outputs stays is. result_stays process (root_fields process given measures) measures made more outputs stays is
