use Rattle.record_program.proofs.AmongNames.{spares_archives}
use Rattle.record_program.proofs.laws.unknown_spares_archives.Goals as goal

pub returns : goal.returns
returns c = spares_archives
