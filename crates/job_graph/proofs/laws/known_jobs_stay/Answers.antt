use Rattle.job_graph.proofs.laws_of_walks.Learned.{jobs_stay}
use Rattle.job_graph.proofs.laws.known_jobs_stay.Goals as goal

pub returns : goal.returns
returns c = jobs_stay
