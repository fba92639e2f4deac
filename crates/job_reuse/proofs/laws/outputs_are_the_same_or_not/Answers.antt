use Rattle.job_reuse.proofs.SameOrNot.{same_or_not}
use Rattle.job_reuse.proofs.laws.outputs_are_the_same_or_not.Goals as goal

pub returns : goal.returns
returns c = same_or_not
