use Rattle.job_reuse.proofs.Refilled.{same_where}
use Rattle.job_reuse.proofs.laws.outputs_differ_in_values_or_names.Goals as goal

pub returns : goal.returns
returns c = same_where
