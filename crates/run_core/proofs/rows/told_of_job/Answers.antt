use Rattle.std.proofs.Common.{Option, subst}
use Rattle.job_graph.specs.KnownJobs.{job_of}
use Rattle.job_graph.specs.declared.unfolding.Unfolding.{Unfolding}
use Rattle.run_core.specs.inner.Course.{known_in, place_at}
use Rattle.run_core.specs.inner.Picks.{LearnsRow}
use Rattle.run_core.proofs.Lists.{if_ok}
use Rattle.run_core.proofs.rows.told_of_job.Goals as goal

pub returns-clause-is : goal.returns-clause-is
returns-clause-is c =
    if_ok c.pick.result
    (λ turn picked. record {
      job = job_of c.job_of.result.now;
      is_job = c.job_of.ensures;
      refusal = c.in_ok-refusal.refusal;
      tells = c.in_ok-refusal.ensures;
      noted = c.note_answer.new.course;
      past = c.in_ok-note_answer.ensures.past;
      known = c.in_ok-note_answer.ensures.known;
      learned = c.learn_row.new.course;
      learns = subst (λ (known : Option Unfolding). LearnsRow (place_at (known_in known) c.args.number) c.args.answer.now c.note_answer.new.course c.learn_row.new.course)
          c.in_ok-note_answer.ensures.known c.in_ok-learn_row.ensures.learned;
      picks = picked;
    })
    c.pick.ensures.is
