use Rattle.record_program.proofs.file.opened_in.Goals as goal

pub returns-in-Ok-clause-of : goal.returns-in-Ok-clause-of
returns-in-Ok-clause-of g c = record { map = c.in-Ok.ensures.map; rows = c.in-Ok.ensures.rows }
