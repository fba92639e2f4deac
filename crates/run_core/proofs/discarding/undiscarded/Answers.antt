use Rattle.run_core.proofs.Lists.{if_ok}
use Rattle.run_core.proofs.discarding.undiscarded.Goals as goal

pub returns-in-Ok-clause-is : goal.returns-in-Ok-clause-is
returns-in-Ok-clause-is c =
    if_ok c.discard_next.result
    (λ turn on. record { noted = c.note.new.course; past = c.in-Ok.ensures.past; known = c.note.ensures.known; on = on })
    c.discard_next.ensures.is
