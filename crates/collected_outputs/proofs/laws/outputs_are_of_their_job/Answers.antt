use Rattle.collected_outputs.proofs.Inside.{each_found, each_name, no_contents}
use Rattle.collected_outputs.proofs.laws.outputs_are_of_their_job.Goals as goal

pub returns : goal.returns
returns c = record { found = each_found; names = each_name; bare = no_contents }
