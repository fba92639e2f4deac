use Rattle.std.proofs.Common.{List, refl, ap}
use Rattle.run_core.specs.declared.job_states.JobState.{JobState}
use Rattle.run_core.specs.declared.state.Course.{Course}
use Rattle.run_core.specs.inner.Course.{past_of}
use Rattle.run_core.proofs.Fits.{fits_brought}
use Rattle.run_core.proofs.Lists.{where_ok}
use Rattle.run_core.proofs.course.note_success.Goals as goal

pub returns-clause-given : goal.returns-clause-given
returns-clause-given c =
    where_ok c.note_outputs.result (λ learns. record {
      there = _;
      past = ap (λ (jobs : List JobState). record (past_of c.args.course.now) { jobs = jobs }) c.bring.ensures;
      known = refl;
      learns = learns;
    })
    c.note_outputs.ensures.learned

pub invariant_of-course : goal.invariant_of-course
invariant_of-course c =
    let old : Course = c.args.course.now in
    record { fits = fits_brought old.rates old.keep old.jobs c.bring.new.self old.lost.items old.rows c.args.number old.touched old.planned c.bring.ensures old.fits; first = old.first; counted = old.counted }
