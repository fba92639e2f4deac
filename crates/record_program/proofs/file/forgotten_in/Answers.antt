use Rattle.record_program.proofs.file.forgotten_in.Goals as goal

pub returns-clause-closes : goal.returns-clause-closes
returns-clause-closes g c = (c.forgotten_for_good-ending.result.1, c.forgotten_for_good-ending.ensures.closes)
