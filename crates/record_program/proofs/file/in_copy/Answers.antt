use Rattle.record_program.specs.Opened.{shown}
use Rattle.record_program.proofs.file.in_copy.Goals as goal

pub returns-in-Ok-clause-whose : goal.returns-in-Ok-clause-whose
returns-in-Ok-clause-whose g c = shown c.in-Ok.conn c.in-Ok.ensures.opened c.in_database.ensures.ends
