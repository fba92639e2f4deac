use Rattle.staging.proofs.Names.{slashes}
use Rattle.staging.proofs.laws.same_components.Goals as goal

pub returns : goal.returns
returns c = λ pattern name matches. slashes matches
