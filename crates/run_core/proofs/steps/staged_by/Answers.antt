use Rattle.run_core.proofs.Lists.{if_ok}
use Rattle.run_core.proofs.Noted.{staged_number}
use Rattle.run_core.proofs.steps.staged_by.Goals as goal

pub site_of-requires-clause-number : goal.site_of-requires-clause-number
site_of-requires-clause-number c = staged_number c.args.number c.args.course.now c.note_staging.new.course c.in_ok-note_staging.ensures.past

pub turn_of-requires-clause-staged : goal.turn_of-requires-clause-staged
turn_of-requires-clause-staged c = staged_number c.args.number c.args.course.now c.note_staging.new.course c.in_ok-note_staging.ensures.past

pub returns-clause-is : goal.returns-clause-is
returns-clause-is c =
    if_ok c.turn_of.result (λ turn turns. record {
      staged = c.note_staging.new.course;
      past = c.in_ok-note_staging.ensures.past;
      known = c.in_ok-note_staging.ensures.known;
      site = c.site_of.result;
      is_site = c.site_of.ensures;
      next = c.in_ok-next.next;
      starts = c.in_ok-next.ensures;
      turns = turns;
    }) c.turn_of.ensures.is
