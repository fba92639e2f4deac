use Rattle.cwl_process.proofs.Levels.{same_levels}
use Rattle.cwl_process.proofs.laws.levels_never_decide.Goals as goal

pub returns : goal.returns
returns c = same_levels
