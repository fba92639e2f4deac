use Rattle.job_graph.proofs.laws_of_walks.ReadDefaults.{defaults_unmade}
use Rattle.job_graph.proofs.laws.read_defaults_are_unmade.Goals as goal

pub returns : goal.returns
returns c = λ bytes base docs process is. defaults_unmade bytes base docs process is
