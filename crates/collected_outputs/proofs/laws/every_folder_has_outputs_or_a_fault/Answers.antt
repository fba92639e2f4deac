use Rattle.collected_outputs.proofs.Existing.{some_collected}
use Rattle.collected_outputs.proofs.laws.every_folder_has_outputs_or_a_fault.Goals as goal

pub returns : goal.returns
returns c = some_collected
