use Rattle.job_reuse.proofs.Deciding.{sound_or_not}
use Rattle.job_reuse.proofs.laws.rows_are_sound_or_not.Goals as goal

pub returns : goal.returns
returns c = sound_or_not
