use Rattle.job_graph.specs.Inputs.{root_fields}
use Rattle.job_graph.proofs.laws_of_walks.Known.{known_agree}
use Rattle.job_graph.proofs.laws.known_jobs_agree.Goals as goal

pub returns : goal.returns
returns c = λ key world process given measures learned apart agrees. known_agree process (root_fields process given measures) measures key world apart learned agrees
