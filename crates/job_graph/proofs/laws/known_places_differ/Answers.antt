use Rattle.job_graph.proofs.laws_of_walks.Known.{known_distinct}
use Rattle.job_graph.proofs.laws.known_places_differ.Goals as goal

pub returns : goal.returns
returns c = known_distinct
