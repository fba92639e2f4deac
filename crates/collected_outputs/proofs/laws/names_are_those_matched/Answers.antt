use Rattle.collected_outputs.proofs.Exactly.{exactly, order}
use Rattle.collected_outputs.proofs.laws.names_are_those_matched.Goals as goal

pub returns : goal.returns
returns c = record { exactly = exactly; order = order }
