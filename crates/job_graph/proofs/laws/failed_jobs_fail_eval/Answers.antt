use Rattle.job_graph.proofs.laws_of_walks.Known.{job_fails}
use Rattle.job_graph.proofs.laws.failed_jobs_fail_eval.Goals as goal

pub returns : goal.returns
returns c = λ key world process given measures learned job agrees at fails. job_fails process given measures key world learned job agrees at fails
