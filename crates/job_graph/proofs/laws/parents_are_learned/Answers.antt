use Rattle.job_graph.proofs.laws_of_walks.Makers.{parent_learned}
use Rattle.job_graph.proofs.laws.parents_are_learned.Goals as goal

pub returns : goal.returns
returns c = λ process given measures learned unmade defaults named known parent at among. parent_learned process given measures learned unmade defaults named known parent at among
