use Rattle.std.proofs.Common.{List, refl, ap}
use Rattle.run_core.specs.declared.job_states.JobState.{JobState}
use Rattle.run_core.specs.declared.state.Course.{Course}
use Rattle.run_core.specs.inner.Course.{past_of}
use Rattle.run_core.proofs.Fits.{fits_brought}
use Rattle.run_core.proofs.Choices.{repeats_now}
use Rattle.run_core.proofs.steps.repeated.Goals as goal

pub returns-clause-is : goal.returns-clause-is
returns-clause-is c =
    repeats_now c.args.given.now c.args.course.now _ c.args.number c.args.row c.in_ok-turn.turn
    (ap (λ (jobs : List JobState). record (past_of c.args.course.now) { jobs = jobs }) c.bring.ensures) refl (record { is = c.in_ok-turn.ensures; past = refl; known = refl })

pub invariant_of-course : goal.invariant_of-course
invariant_of-course c =
    let old : Course = c.args.course.now in
    record { fits = fits_brought old.rates old.keep old.jobs c.bring.new.self old.lost.items old.rows c.args.number old.touched old.planned c.bring.ensures old.fits; first = old.first; counted = old.counted }
