use Rattle.input_files.proofs.Seen.{files_found, there_seen}
use Rattle.input_files.proofs.laws.measured_values_say_what_is_there.Goals as goal

pub returns : goal.returns
returns c = record { files = files_found; there = there_seen }
