use Rattle.collected_outputs.proofs.Existing.{some_heads}
use Rattle.collected_outputs.proofs.laws.some_heads_are_wanted.Goals as goal

pub returns : goal.returns
returns c = some_heads
