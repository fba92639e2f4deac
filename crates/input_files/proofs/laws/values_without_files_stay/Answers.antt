use Rattle.input_files.proofs.Fileless.{untouched}
use Rattle.input_files.proofs.laws.values_without_files_stay.Goals as goal

pub returns : goal.returns
returns c = untouched
