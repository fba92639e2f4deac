use Rattle.collected_outputs.proofs.Declared.{those_declared}
use Rattle.collected_outputs.proofs.laws.outputs_are_those_declared.Goals as goal

pub returns : goal.returns
returns c = those_declared
