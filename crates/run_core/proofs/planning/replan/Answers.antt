use Rattle.std.specs.Prelude.{MatchBool, MatchOption}
use Rattle.std.proofs.Common.{◌∙◌, Bool, Option, Some, [], ap, refl, subst, sym}
use Rattle.run_plan.specs.declared.kept.NextPlan.{NextPlan}
use Rattle.run_core.specs.declared.counts.PlanCounts.{PlanCounts}
use Rattle.run_core.specs.inner.Course.{Past, with_plan}
use Rattle.run_core.specs.inner.Fits.{Fits}
use Rattle.run_core.specs.inner.Planning.{AllThere, IsLentTo, IsNextAt, PlansNothing, SomeAway, counted, counts_one, fails, leaves, plans, stays}
use Rattle.run_core.proofs.Fits.{first_planned, fits_planned}
use Rattle.run_core.proofs.Lists.{both_ok, where_ok}
use Rattle.run_core.proofs.planning.replan.Goals as goal

pub returns-then-not-some_are_away-clause-replans :
    goal.returns-then-not-some_are_away-clause-replans
returns-then-not-some_are_away-clause-replans c =
    stays c.args.course.now
    (subst (λ (away : Bool). MatchBool away (SomeAway c.args.course.now) (AllThere c.args.course.now)) c.if-not-some_are_away.true c.some_are_away.ensures) refl refl

pub returns-then-not-some_are_away-clause-counts :
    goal.returns-then-not-some_are_away-clause-counts
returns-then-not-some_are_away-clause-counts c = leaves c.args.course.now refl refl

pub returns-in-None-clause-replans : goal.returns-in-None-clause-replans
returns-in-None-clause-replans c =
    let left = subst (IsLentTo c.args.course.now c.planned_anew.new.course) c.in-None.is c.in_ok-planned_anew.ensures.rest in
    fails c.planned_anew.new.course
    (subst (λ (made : Option NextPlan). MatchOption made (PlansNothing c.args.course.now) (IsNextAt c.args.given.now c.args.course.now)) c.in-None.is c.in_ok-planned_anew.ensures.made)
    left.past left.known

pub returns-in-None-clause-counts : goal.returns-in-None-clause-counts
returns-in-None-clause-counts c =
    let left = subst (IsLentTo c.args.course.now c.planned_anew.new.course) c.in-None.is c.in_ok-planned_anew.ensures.rest in
    leaves c.planned_anew.new.course (ap (λ (past : Past). past.plans) left.past) left.counts

pub returns-in-Some-clause-replans : goal.returns-in-Some-clause-replans
returns-in-Some-clause-replans c =
    let left = subst (IsLentTo c.args.course.now c.planned_anew.new.course) c.in-Some.is c.in_ok-planned_anew.ensures.rest in
    where_ok c.keep.result
    (λ past.
    plans c.in-Some.next.plan c.keep.new.course
    (subst (λ (away : Bool). MatchBool away (SomeAway c.args.course.now) (AllThere c.args.course.now)) c.if-not-some_are_away.false c.some_are_away.ensures)
    (subst (λ (made : Option NextPlan). MatchOption made (PlansNothing c.args.course.now) (IsNextAt c.args.given.now c.args.course.now)) c.in-Some.is
    c.in_ok-planned_anew.ensures.made).plan
    (past ∙ ap (with_plan c.args.given.now.answers c.in-Some.next.plan) left.past)
    (c.keep.ensures.known ∙ left.known))
    c.keep.ensures.past

pub returns-in-Some-clause-counts : goal.returns-in-Some-clause-counts
returns-in-Some-clause-counts c =
    let left = subst (IsLentTo c.args.course.now c.planned_anew.new.course) c.in-Some.is c.in_ok-planned_anew.ensures.rest in
    let its = subst (λ (made : Option NextPlan). MatchOption made (PlansNothing c.args.course.now) (IsNextAt c.args.given.now c.args.course.now)) c.in-Some.is
    c.in_ok-planned_anew.ensures.made in
    both_ok c.keep.result
    (λ past counts.
    counts_one c.in-Some.next c.keep.new.course (ap (λ (p : Past). p.planned) past) its.brought
    (counts ∙ ap (λ (were : PlanCounts). counted c.in-Some.next.brought were) left.counts))
    c.keep.ensures.past c.keep.ensures.counts

pub keep-requires-clause-fits : goal.keep-requires-clause-fits
keep-requires-clause-fits c =
    let left = subst (IsLentTo c.args.course.now c.planned_anew.new.course) c.in-Some.is c.in_ok-planned_anew.ensures.rest in
    let fits = fits_planned c.args.given.now c.args.course.now c.in-Some.next.plan
    (subst (λ (made : Option NextPlan). MatchOption made (PlansNothing c.args.course.now) (IsNextAt c.args.given.now c.args.course.now)) c.in-Some.is
    c.in_ok-planned_anew.ensures.made).plan in
    subst (λ (past : Past). Fits c.args.given.now.rates c.args.given.now.options.keep past.jobs past.lost past.rows (Some []) (Some c.in-Some.next.plan)) (sym left.past) fits

pub keep-requires-clause-first : goal.keep-requires-clause-first
keep-requires-clause-first c =
    let left = subst (IsLentTo c.args.course.now c.planned_anew.new.course) c.in-Some.is c.in_ok-planned_anew.ensures.rest in
    first_planned c.args.given.now c.args.course.now c.planned_anew.new.course c.in-Some.next.plan
    (subst (λ (made : Option NextPlan). MatchOption made (PlansNothing c.args.course.now) (IsNextAt c.args.given.now c.args.course.now)) c.in-Some.is
    c.in_ok-planned_anew.ensures.made).plan left.known
