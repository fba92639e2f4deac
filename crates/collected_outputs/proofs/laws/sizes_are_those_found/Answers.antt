use Rattle.collected_outputs.proofs.Sizes.{those_found}
use Rattle.collected_outputs.proofs.laws.sizes_are_those_found.Goals as goal

pub returns : goal.returns
returns c = those_found
