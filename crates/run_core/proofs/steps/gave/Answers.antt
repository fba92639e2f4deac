use Rattle.std.proofs.Common.{Option, sym, subst}
use Rattle.job_rows.specs.declared.row.Row.{Row}
use Rattle.run_core.specs.declared.state.JobNext.{JobNext}
use Rattle.run_core.specs.inner.Picks.{Turns, gives}
use Rattle.run_core.proofs.Lists.{if_ok}
use Rattle.run_core.proofs.steps.gave.Goals as goal

pub returns-in_ok-note_success-in-None-clause-is :
    goal.returns-in_ok-note_success-in-None-clause-is
returns-in_ok-note_success-in-None-clause-is c =
    if_ok c.pick.result
    (λ turn picks.
    subst (λ (row : Option Row). Turns c.args.given.now c.args.course.now c.args.number (JobNext.Gives c.args.outputs row) turn c.pick.new.course) (sym c.in-None.is)
    (gives c.args.outputs _ c.note_success.new.course turn c.pick.new.course c.in_ok-note_success-in-None.ensures.given picks))
    c.pick.ensures.is

pub returns-in-Some-clause-is : goal.returns-in-Some-clause-is
returns-in-Some-clause-is c =
    if_ok c.gave_row.result
    (λ turn turns.
    subst (λ (row : Option Row). Turns c.args.given.now c.args.course.now c.args.number (JobNext.Gives c.args.outputs row) turn c.gave_row.new.course) (sym c.in-Some.is) turns)
    c.gave_row.ensures.is
