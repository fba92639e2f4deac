use Rattle.record_program.proofs.databases.opened_copy.Goals as goal

pub returns-in-Ok-clause-found : goal.returns-in-Ok-clause-found
returns-in-Ok-clause-found c = λ clean. (c.in-Ok.ensures.opened clean, c.in-Ok.ensures.found clean)
