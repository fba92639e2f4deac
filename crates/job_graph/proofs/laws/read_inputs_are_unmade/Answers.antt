use Rattle.job_graph.proofs.laws_of_walks.ReadDefaults.{inputs_unmade}
use Rattle.job_graph.proofs.laws.read_inputs_are_unmade.Goals as goal

pub returns : goal.returns
returns c = λ bytes base read given is at. inputs_unmade bytes base read given is at
