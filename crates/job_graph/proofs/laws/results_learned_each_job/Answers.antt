use Rattle.job_graph.specs.Inputs.{root_fields}
use Rattle.job_graph.proofs.laws_of_walks.Known.{each_learned}
use Rattle.job_graph.proofs.laws.results_learned_each_job.Goals as goal

pub returns : goal.returns
returns c = λ process given measures. each_learned process (root_fields process given measures) measures
