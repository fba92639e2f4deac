use Rattle.std.specs.Prelude.{Ok}
use Rattle.std.proofs.Common.{◌∙◌, ◌<◌, ◌≤◌, List, Result, sym, ap, subst}
use Rattle.job_graph.specs.Words.{JobPlace}
use Rattle.job_graph.specs.KnownJobs.{job_of}
use Rattle.run_rules.specs.declared.outcome.Outcome.{Outcome}
use Rattle.run_rules.specs.declared.outcome.RunFault.{RunFault}
use Rattle.run_core.specs.declared.job_states.JobState.{JobState}
use Rattle.run_core.specs.inner.Course.{GivesUp, Past, again, known_in, past_of, too_often, with_end}
use Rattle.run_core.specs.inner.JobStates.{state_at}
use Rattle.run_core.proofs.Choosing.{place_there}
use Rattle.run_core.proofs.States.{touched_at}
use Rattle.run_core.proofs.course.note_giving_up.Goals as goal

pub returns-then-gave_up-retries-clause-ok : goal.returns-then-gave_up-retries-clause-ok
returns-then-gave_up-retries-clause-ok c =
    subst (λ (states : List JobState). GivesUp (known_in c.args.course.now.known) c.args.number c.args.retries (past_of c.args.course.now)
    (record (past_of c.args.course.now) { jobs = states })) (sym c.give_up.ensures)
    (again (state_at c.args.course.now.jobs c.args.number) (touched_at c.args.course.now.jobs c.args.number c.requires.number)
    (subst (λ times. times < c.args.retries) c.tries-gave_up.ensures c.if-gave_up-retries.true))

pub returns-clause-ok : goal.returns-clause-ok
returns-clause-ok c =
    subst (λ (new : Past). GivesUp (known_in c.args.course.now.known) c.args.number c.args.retries (past_of c.args.course.now) new)
    (sym (c.settle.ensures.past ∙ ap (λ (end : Result Outcome RunFault). with_end end (past_of c.args.course.now))
    (ap (λ (place : JobPlace). Ok (Outcome.TemporaryFail place))
    (c.in_ok-place.ensures ∙ sym (place_there (known_in c.args.course.now.known) c.args.number (job_of c.job_of.result.now) c.job_of.ensures)))))
    (too_often (state_at c.args.course.now.jobs c.args.number) (touched_at c.args.course.now.jobs c.args.number c.requires.number)
    (subst (λ times. c.args.retries ≤ times) c.tries-gave_up.ensures c.if-gave_up-retries.false))
