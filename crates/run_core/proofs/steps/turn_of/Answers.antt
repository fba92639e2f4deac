use Rattle.std.proofs.Common.{sym, subst}
use Rattle.job_graph.specs.KnownJobs.{job_of as job_seen}
use Rattle.run_core.specs.declared.state.JobNext.{JobNext}
use Rattle.run_core.specs.inner.Course.{known_in}
use Rattle.run_core.specs.inner.Picks.{Turns, fails, mismatches}
use Rattle.run_core.proofs.Choices.{turns_asks}
use Rattle.run_core.proofs.Choosing.{place_there}
use Rattle.run_core.proofs.Lists.{if_ok}
use Rattle.run_core.proofs.steps.turn_of.Goals as goal

pub returns-in-Asks-clause-is : goal.returns-in-Asks-clause-is
returns-in-Asks-clause-is c =
    if_ok c.working.result
    (λ turn is.
    turns_asks c.args.given.now c.args.course.now c.args.number c.args.next c.in-Asks.request c.in-Asks.phase c.job_of.result.now.place turn c.in-Asks.is
    (place_there (known_in c.args.course.now.known) c.args.number (job_seen c.job_of.result.now) c.job_of.ensures) is)
    c.working.ensures

pub returns-in_ok-note_failure-in-Fails-clause-is :
    goal.returns-in_ok-note_failure-in-Fails-clause-is
returns-in_ok-note_failure-in-Fails-clause-is c =
    if_ok c.pick.result
    (λ turn picks.
    subst (λ (next : JobNext). Turns c.args.given.now c.args.course.now c.args.number next turn c.pick.new.course) (sym c.in-Fails.is)
    (fails c.in-Fails.cause c.note_failure.new.course turn c.pick.new.course c.in_ok-note_failure-in-Fails.ensures.ok c.in_ok-note_failure-in-Fails.ensures.known picks))
    c.pick.ensures.is

pub returns-in_ok-note_mismatch-in-Differs-clause-is :
    goal.returns-in_ok-note_mismatch-in-Differs-clause-is
returns-in_ok-note_mismatch-in-Differs-clause-is c =
    if_ok c.pick-in-Differs.result
    (λ turn picks.
    subst (λ (next : JobNext). Turns c.args.given.now c.args.course.now c.args.number next turn c.pick-in-Differs.new.course) (sym c.in-Differs.is)
    (mismatches c.in-Differs.outputs c.note_mismatch.new.course turn c.pick-in-Differs.new.course c.in_ok-note_mismatch-in-Differs.ensures.ok
    c.in_ok-note_mismatch-in-Differs.ensures.known picks))
    c.pick-in-Differs.ensures.is
