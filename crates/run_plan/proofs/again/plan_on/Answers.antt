use Rattle.std.specs.Prelude.{◌↔◌, IfOk, IsTrue}
use Rattle.std.proofs.Common.{◌≡◌, ◌∙◌, List, Option, Some, ap, subst, sym}
use Rattle.job_graph.specs.PresentJobGraph.{present_job_graph}
use Rattle.job_graph.specs.declared.unfolding.Unfolding.{Unfolding}
use Rattle.plan_checker.specs.declared.vertex.Vertex.{Vertex}
use Rattle.plan_keeper.specs.declared.planned.Planned.{Planned}
use Rattle.run_plan.specs.Brought.{CanBeBrought, StaysApart}
use Rattle.run_plan.proofs.Apart.{anew_exactly, brought_as, last_stays, never_refused}
use Rattle.run_plan.proofs.again.plan_on.Goals as goal

pub returns-in-Err-clause-brought : goal.returns-in-Err-clause-brought
returns-in-Err-clause-brought c =
    let graph : List Vertex = present_job_graph c.args.known.now.learned c.args.known.now.known c.args.known.now.outs c.args.costs.now in
    let is : c.args.last.now ≡ Some c.in-Some.kept = sym c.replace.ensures.value ∙ c.in-Some.is in
    anew_exactly (CanBeBrought c.args.last.now graph) c.plan_anew-in-Err.result c.plan_anew-in-Err.ensures.anew
    (λ can. c.in-Err.ensures.err (subst (λ (last : Option Planned). CanBeBrought last graph) is can).before)

pub returns-in-Err-clause-stays : goal.returns-in-Err-clause-stays
returns-in-Err-clause-stays c =
    never_refused _ _ c.plan_anew-in-Err.result (ap (λ (known : Unfolding). known.refused) c.needed.ensures.same ∙ c.in_ok-needed.ensures.goes_on) c.plan_anew-in-Err.ensures.err

pub returns-in-Ok-clause-brought : goal.returns-in-Ok-clause-brought
returns-in-Ok-clause-brought c =
    let graph : List Vertex = present_job_graph c.args.known.now.learned c.args.known.now.known c.args.known.now.outs c.args.costs.now in
    brought_as (StaysApart c.in-Ok.made.graph graph) (CanBeBrought c.args.last.now graph) c.plan_by.result
    (last_stays c.args.last.now c.in-Some.kept c.in-Ok.made.graph graph (sym c.replace.ensures.value ∙ c.in-Some.is) c.in-Ok.ensures.ok.1)
    (subst
    (λ (known : Unfolding). IfOk c.plan_by.result (λ next. IsTrue next.brought ↔ StaysApart c.in-Ok.made.graph (present_job_graph known.learned known.known known.outs c.args.costs.now)))
    c.needed.ensures.same c.plan_by.ensures.brought)
