use Rattle.record_program.proofs.held.trimmed_in.Goals as goal

pub returns-clause-closes : goal.returns-clause-closes
returns-clause-closes g c = (c.trimmed_for_good-ending.result.2, c.trimmed_for_good-ending.ensures.closes)
