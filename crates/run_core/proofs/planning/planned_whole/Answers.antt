use Rattle.std.specs.Prelude.{◌↔◌, IsTrue, MatchOption, OnOk}
use Rattle.std.proofs.Common.{◌≡◌, ◌≢◌, ◌∙◌, List, length, Option, None, Some, Result, Ok, Err, IfOk, IfErr, ap, refl, sym, subst}
use Rattle.job_graph.specs.PresentJobGraph.{present_job_graph}
use Rattle.job_graph.specs.Unfolding.{Blames, fault_of}
use Rattle.job_graph.specs.declared.costs.Costs.{Costs}
use Rattle.job_graph.specs.declared.fault.UnfoldError.{UnfoldError}
use Rattle.job_graph.specs.declared.unfolding.Unfolding.{Unfolding}
use Rattle.run_plan.specs.Brought.{CanBeBrought}
use Rattle.run_plan.specs.Planned.{IsPlanOf}
use Rattle.run_plan.specs.declared.kept.NextPlan.{NextPlan}
use Rattle.plan_checker.specs.declared.vertex.Vertex.{Vertex}
use Rattle.plan_keeper.specs.declared.planned.Planned.{Planned}
use Rattle.run_core.specs.declared.state.Course.{Course}
use Rattle.run_core.specs.declared.state.Given.{Given}
use Rattle.run_core.specs.inner.Course.{known_in, past_of}
use Rattle.run_core.specs.inner.Planning.{AreCosts, IsLentTo, IsNextAt, IsToldPlan, PlansNothing, refused}
use Rattle.run_core.proofs.Lists.{if_ok}
use Rattle.run_core.proofs.planning.planned_whole.Goals as goal

-- by what is told of the plan
by_told : (given : Given) (course : Course) (kept : Unfolding) → course.known ≡ Some kept → (costs : List Costs) → AreCosts given (past_of course) (length (known_in course.known)) costs →
    (told : Result NextPlan UnfoldError) → IfOk told (λ next. IsPlanOf (present_job_graph kept.learned kept.known kept.outs costs) next.plan) →
    IfOk told (λ next. IsTrue next.brought ↔ CanBeBrought course.planned (present_job_graph kept.learned kept.known kept.outs costs)) → IfErr told (Blames kept.refused) →
    (made : Option NextPlan) → IsToldPlan told made → MatchOption made (PlansNothing course) (IsNextAt given course)
by_told given course kept known costs its (Ok next) planned brought blames made is =
    subst (λ (m : Option NextPlan). MatchOption m (PlansNothing course) (IsNextAt given course)) (sym is) (record {
      plan = record { kept = kept; known = known; costs = costs; its_costs = its; planned = planned };
      brought = subst (λ (graph : List Vertex). IsTrue next.brought ↔ CanBeBrought course.planned graph) (sym planned.its_graph) brought;
    })
by_told given course kept known costs its (Err (UnfoldError.Refused fault)) planned brought blames made is =
    subst (λ (m : Option NextPlan). MatchOption m (PlansNothing course) (IsNextAt given course)) (sym is) (refused kept (fault_of fault) known blames)
by_told given course kept known costs its (Err UnfoldError.OutOfMemory) planned brought blames made is = absurd is

-- the plan in force is away where there is a new one
lent_by_told : (old new : Course) (last : Option Planned) (told : Result NextPlan UnfoldError) → past_of new ≡ record (past_of old) { planned = last } → new.known ≡ old.known → new.counts ≡ old.counts →
    OnOk told (last ≡ None) → IfErr told (λ error. error ≢ UnfoldError.OutOfMemory → last ≡ old.planned) → (made : Option NextPlan) → IsToldPlan told made → IsLentTo old new made
lent_by_told old new last (Ok plan) past known counts taken stays made is =
    subst (IsLentTo old new) (sym is)
    (record { past = past ∙ ap (λ (planned : Option Planned). record (past_of old) { planned = planned }) taken; known = known; counts = counts })
lent_by_told old new last (Err (UnfoldError.Refused fault)) past known counts taken stays made is =
    subst (IsLentTo old new) (sym is)
    (record { past = past ∙ ap (λ (planned : Option Planned). record (past_of old) { planned = planned }) (stays (λ e. absurd cc)); known = known; counts = counts })
lent_by_told old new last (Err UnfoldError.OutOfMemory) past known counts taken stays made is = absurd is

pub returns-clause-made : goal.returns-clause-made
returns-clause-made c =
    if_ok c.if_planned.result
    (by_told c.args.given.now c.args.course.now c.in-Some.known c.in-Some.is c.as_slice.result.now
    (subst (λ (costs : List Costs). AreCosts c.args.given.now (past_of c.args.course.now) (length (known_in c.args.course.now.known)) costs) (sym c.as_slice.ensures.value)
    c.in_ok-costs.ensures.costs)
    c.plan_on.result c.plan_on.ensures.ok c.plan_on.ensures.brought c.plan_on.ensures.err)
    c.if_planned.ensures

pub returns-clause-rest : goal.returns-clause-rest
returns-clause-rest c =
    if_ok c.if_planned.result (lent_by_told c.args.course.now _ c.plan_on.new.last c.plan_on.result refl (ap Some c.plan_on.ensures.known ∙ sym c.in-Some.is) refl c.plan_on.ensures.taken c.plan_on.ensures.stays) c.if_planned.ensures
