use Rattle.job_key.proofs.Told as told
use Rattle.job_key.proofs.laws.keys_tell_jobs_apart.Goals as goal

pub returns : goal.returns
returns c = told.keys_tell_jobs_apart
