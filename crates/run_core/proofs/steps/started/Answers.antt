use Rattle.run_core.proofs.Lists.{if_ok}
use Rattle.run_core.proofs.steps.started.Goals as goal

pub returns-clause-is : goal.returns-clause-is
returns-clause-is c =
    if_ok c.pick.result
    (λ turn picks. record { started = c.note_start.new.course; past = c.note_start.ensures.past; known = c.note_start.ensures.known; picks = picks })
    c.pick.ensures.is
