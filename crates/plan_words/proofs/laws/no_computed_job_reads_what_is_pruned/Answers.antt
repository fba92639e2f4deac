use Rattle.plan_words.proofs.Pruned.{none_computed}
use Rattle.plan_words.proofs.laws.no_computed_job_reads_what_is_pruned.Goals as goal

pub returns : goal.returns
returns c = none_computed
