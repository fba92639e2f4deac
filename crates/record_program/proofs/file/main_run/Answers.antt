use Rattle.record_program.specs.Endings.{says, fails}
use Rattle.record_program.proofs.file.main_run.Goals as goal

pub returns-in-Ok : goal.returns-in-Ok
returns-in-Ok g c = rw c.status.ensures (says c.record_ending-ending.result c.record_ending-ending.ensures.ending c.record_ending-ending.ensures.whose c.in-Ok.ensures)

pub returns : goal.returns
returns g c = fails
