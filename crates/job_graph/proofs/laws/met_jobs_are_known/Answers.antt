use Rattle.job_graph.specs.Inputs.{root_fields}
use Rattle.job_graph.proofs.laws_of_walks.Known.{met_is_known}
use Rattle.job_graph.proofs.laws.met_jobs_are_known.Goals as goal

pub returns : goal.returns
returns c = λ process given measures. met_is_known process (root_fields process given measures) measures
