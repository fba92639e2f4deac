use Rattle.job_graph.specs.Inputs.{root_fields}
use Rattle.job_graph.proofs.laws_of_walks.Learned.{walk_grows}
use Rattle.job_graph.proofs.laws.more_is_met.Goals as goal

pub returns : goal.returns
returns c = λ process given measures. walk_grows process (root_fields process given measures) measures
