use Rattle.staging.proofs.Names.{hidden}
use Rattle.staging.proofs.laws.hidden_by_a_period_alone.Goals as goal

pub returns : goal.returns
returns c = hidden
