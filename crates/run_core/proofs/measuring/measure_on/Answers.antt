use Rattle.std.proofs.Common.{◌≡◌, ◌∙◌, ◌-◌, [], length, take, refl, sym, subst}
use Rattle.job_graph.specs.Words.{Name}
use Rattle.proc_host.specs.declared.call.HostRequest.{HostRequest}
use Rattle.run_core.specs.declared.state.Phase.{Phase}
use Rattle.run_core.specs.declared.state.Turn.{Turn}
use Rattle.run_core.specs.inner.Measures.{MeasuresOn, all_measured, measures}
use Rattle.run_core.specs.inner.Turn.{waits}
use Rattle.run_core.proofs.Lists.{if_ok, none_in, with_last}
use Rattle.run_core.proofs.measuring.measure_on.Goals as goal

pub returns-in_ok-know-in-empty-clause-is : goal.returns-in_ok-know-in-empty-clause-is
returns-in_ok-know-in-empty-clause-is c =
    let none : c.args.measuring.left ≡ [] = sym c.as_slice.ensures ∙ none_in c.as_slice.result.now c.in-empty.len_below in
    if_ok c.pick.result (λ turn picks. all_measured c.know.new.course turn c.pick.new.course none c.in_ok-know-in-empty.ensures.is picks) c.pick.ensures.is

pub returns-in_ok-path-in-len1-up-clause-is : goal.returns-in_ok-path-in-len1-up-clause-is
returns-in_ok-path-in-len1-up-clause-is c =
    subst (λ (turn : Turn). MeasuresOn c.args.given.now c.args.course.now c.args.measuring turn c.args.course.now) (sym c.waiting.ensures)
    (subst (λ (path : Name). MeasuresOn c.args.given.now c.args.course.now c.args.measuring (waits (HostRequest.Measure path) (Phase.Measuring c.args.measuring)) c.args.course.now)
    (sym c.in_ok-path-in-len1-up.ensures)
    (measures (take (length c.as_slice.result.now - 1) c.as_slice.result.now) c.path-item.result c.args.course.now
    (sym c.as_slice.ensures ∙ with_last c.as_slice.result.now c.path-item.result c.in-len1-up.len_at_least c.path-item.is) refl refl))
