use Rattle.job_graph.proofs.laws_of_walks.Makers.{maker_learned}
use Rattle.job_graph.proofs.laws.makers_are_learned.Goals as goal

pub returns : goal.returns
returns c = λ process given measures learned unmade defaults named job at maker made. maker_learned process given measures learned unmade defaults named job maker at made
