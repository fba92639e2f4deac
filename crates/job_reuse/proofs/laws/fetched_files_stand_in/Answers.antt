use Rattle.job_reuse.proofs.Agreeing.{stand_in}
use Rattle.job_reuse.proofs.laws.fetched_files_stand_in.Goals as goal

pub returns : goal.returns
returns c = stand_in
