use Rattle.run_core.proofs.Lists.{if_ok}
use Rattle.run_core.proofs.rows.touched.Goals as goal

pub returns-clause-is : goal.returns-clause-is
returns-clause-is c =
    if_ok c.pick.result
    (λ turn picked. record {
      noted = c.note_touch.new.course;
      past = c.in_ok-note_touch.ensures.past;
      known = c.in_ok-note_touch.ensures.known;
      picks = picked;
    })
    c.pick.ensures.is
