use Rattle.run_core.proofs.Lists.{if_ok}
use Rattle.run_core.proofs.steps.gave_up.Goals as goal

pub returns-clause-is : goal.returns-clause-is
returns-clause-is c =
    if_ok c.pick.result (λ turn picks. record {
      tried = c.note_giving_up.new.course;
      gives_up = c.in_ok-note_giving_up.ensures.ok;
      known = c.in_ok-note_giving_up.ensures.known;
      picks = picks;
    }) c.pick.ensures.is
