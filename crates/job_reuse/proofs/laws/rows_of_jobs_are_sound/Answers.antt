use Rattle.job_reuse.proofs.Lawful.{rows_sound}
use Rattle.job_reuse.proofs.laws.rows_of_jobs_are_sound.Goals as goal

pub returns : goal.returns
returns c = rows_sound
