use Rattle.std.proofs.Common.{◌∙◌, sym, ap}
use Rattle.run_core.specs.declared.state.Course.{Course}
use Rattle.run_core.proofs.Choices.{picks_by_plan, picks_find}
use Rattle.run_core.proofs.Choosing.{is_none}
use Rattle.run_core.proofs.Lists.{if_ok, on_err}
use Rattle.run_core.proofs.choice.pick.Goals as goal

pub returns-in-Some-clause-is : goal.returns-in-Some-clause-is
returns-in-Some-clause-is c =
    if_ok c.finding.result
    (λ turn f.
    picks_find c.args.given.now c.args.course.now (is_none c.args.course.now.end (sym c.is_some.ensures ∙ c.if-is_some.false)) c.in-Some.number turn c.in-Some.ensures f)
    c.finding.ensures

pub returns-clause-is : goal.returns-clause-is
returns-clause-is c =
    if_ok c.choose.result
    (λ turn chosen.
    picks_by_plan c.args.given.now c.args.course.now (is_none c.args.course.now.end (sym c.is_some.ensures ∙ c.if-is_some.false)) c.in_default.ensures
    c.replan.new.course c.in_ok-replan.ensures.replans turn c.choose.new.course c.choose.ensures.same chosen)
    c.choose.ensures.is

pub returns-clause-flying : goal.returns-clause-flying
returns-clause-flying c = on_err c.choose.result (ap (λ (x : Course). x.tickets.items) c.choose.ensures.same ∙ c.in_ok-replan.ensures.tickets)
