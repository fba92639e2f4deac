use Rattle.job_graph.specs.Inputs.{root_fields}
use Rattle.job_graph.proofs.laws_of_walks.Open.{unfolded_same}
use Rattle.job_graph.proofs.laws.open_jobs_hold_back.Goals as goal

pub returns : goal.returns
returns c = λ process given measures learned one apart none waits. unfolded_same process (root_fields process given measures) measures apart learned one waits none
