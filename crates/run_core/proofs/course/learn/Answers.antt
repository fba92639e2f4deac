use Rattle.std.proofs.Common.{Option, subst}
use Rattle.std.proofs.lemmas.Result.{err_from_is_err_and}
use Rattle.job_graph.specs.KnownJobs.{job_of as job_seen}
use Rattle.job_graph.specs.declared.unfolding.Unfolding.{Unfolding}
use Rattle.run_plan.specs.Touched.{AreOfFirst, graph_in}
use Rattle.run_plan.proofs.First.{learned_first}
use Rattle.run_core.specs.inner.Course.{known_in, place_at}
use Rattle.run_core.proofs.Telling.{told_none, told_place}
use Rattle.run_core.proofs.course.learn.Goals as goal

pub returns-in_err-place-clause-told : goal.returns-in_err-place-clause-told
returns-in_err-place-clause-told c = λ kept is.
    let p = err_from_is_err_and c.from_residual.result c.from_residual.ensures.1 in
    told_none (record { place = place_at (known_in c.args.course.now.known) c.args.number; outputs = c.args.outputs }) kept c.args.course.now.known
    c.from_residual.result p.0 is p.1 p.2

pub returns-in-Some-clause-told : goal.returns-in-Some-clause-told
returns-in-Some-clause-told c = λ kept is.
    told_place (known_in c.args.course.now.known) c.args.number c.args.outputs (job_seen c.job_of.result.now) c.in_ok-place.place c.args.course.now.known
    c.in-Some.unfolding c.learn.new.self kept c.learn.result c.job_of.ensures c.in_ok-place.ensures c.in-Some.is c.learn.ensures.learns c.learn.ensures.err is

-- the plan in force is of the first jobs still, once more are known
pub invariant_of-course : goal.invariant_of-course
invariant_of-course c = record {
  fits = c.args.course.now.fits;
  counted = c.args.course.now.counted;
  first = λ yes.
      learned_first (graph_in c.args.course.now.planned) c.in-Some.unfolding c.learn.new.self c.learn.result c.learn.ensures.ok c.learn.ensures.err
      (subst (λ (known : Option Unfolding). AreOfFirst (graph_in c.args.course.now.planned) (known_in known)) c.in-Some.is (c.args.course.now.first yes));
}
