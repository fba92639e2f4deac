use Rattle.end_words.specs.Told.{says, fails}
use Rattle.cwl_program.proofs.entry.say.Goals as goal

pub returns-in-Ok : goal.returns-in-Ok
returns-in-Ok g c = rw c.status.ensures (says c.in-Ok.ensures)

pub returns-in-Err : goal.returns-in-Err
returns-in-Err g c = fails
