use Rattle.job_graph.specs.Inputs.{root_fields}
use Rattle.job_graph.proofs.laws_of_walks.Known.{known_is_met}
use Rattle.job_graph.proofs.laws.known_jobs_are_met.Goals as goal

pub returns : goal.returns
returns c = λ process given measures. known_is_met process (root_fields process given measures) measures
