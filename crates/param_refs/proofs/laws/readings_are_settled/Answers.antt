use Rattle.param_refs.proofs.Settled.{reading_same}
use Rattle.param_refs.proofs.laws.readings_are_settled.Goals as goal

pub returns : goal.returns
returns c = reading_same
