use Rattle.input_files.proofs.Needed.{those_needed}
use Rattle.input_files.proofs.laws.paths_are_those_needed.Goals as goal

pub returns : goal.returns
returns c = those_needed
