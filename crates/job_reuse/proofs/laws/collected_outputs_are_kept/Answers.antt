use Rattle.job_reuse.proofs.Lawful.{are_kept, read_back}
use Rattle.job_reuse.proofs.laws.collected_outputs_are_kept.Goals as goal

pub returns : goal.returns
returns c = record { kept = are_kept; read = read_back }
