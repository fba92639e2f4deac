use Rattle.job_reuse.proofs.SameFiles.{files_same_or_not}
use Rattle.job_reuse.proofs.laws.files_are_the_same_or_not.Goals as goal

pub returns : goal.returns
returns c = files_same_or_not
