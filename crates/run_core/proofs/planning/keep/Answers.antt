use Rattle.std.proofs.Common.{◌≡◌, ◌∙◌, ◌+◌, ◌++◌, ◌∷◌, ℕ, [], Bool, true, false, List, Option, Some, ap, arith, length, subst, sym}
use Rattle.std.proofs.lemmas.List.{length_push}
use Rattle.plan_keeper.specs.declared.planned.Planned.{Planned}
use Rattle.run_plan.specs.Costs.{LoadRates}
use Rattle.run_plan.specs.Touched.{AreOfFirst, graph_in}
use Rattle.run_rules.specs.declared.outcome.PlanNote.{PlanNote}
use Rattle.run_core.specs.declared.counts.PlanCounts.{PlanCounts}
use Rattle.run_core.specs.inner.Fits.{Fits}
use Rattle.run_core.specs.inner.Known.{known_in}
use Rattle.run_core.specs.inner.Planning.{counted}
use Rattle.run_core.proofs.planning.keep.Goals as goal

-- one more plan is one more in all
one_more : (brought : Bool) (counts : PlanCounts) (plans : List PlanNote) → counts.brought + counts.anew ≡ length plans →
    (counted brought counts).brought + (counted brought counts).anew ≡ length plans + 1
one_more true counts plans sum = omega (arith, sum)
one_more false counts plans sum = omega (arith, sum)

counted_more : (brought : Bool) (counts now : PlanCounts) (plans pushed : List PlanNote) (note : PlanNote) → counts.brought + counts.anew ≡ length plans → now ≡ counted brought counts →
    pushed ≡ plans ++ note ∷ [] → now.brought + now.anew ≡ length pushed
counted_more brought counts now plans pushed note sum is more =
    let long : length pushed ≡ length (plans ++ note ∷ []) = ap (λ (list : List PlanNote). length list) more in
    let one = one_more brought counts plans sum in
    ap (λ (c : PlanCounts). c.brought + c.anew) is ∙ omega (arith, one, long, length_push plans note)

pub invariant_of-course-clause-counted : goal.invariant_of-course-clause-counted
invariant_of-course-clause-counted c =
    counted_more c.args.next.brought c.args.course.now.counts c.counted-course.result c.args.course.now.plans.items c.push.new.self.items _ c.args.course.now.counted c.counted-course.ensures
    c.in-Ok.ensures.items

pub invariant_of-course-clause-fits : goal.invariant_of-course-clause-fits
invariant_of-course-clause-fits c =
    let course = c.args.course.now in
    let keep = c.args.given.now.options.keep in
    subst (λ (planned : Option Planned). Fits c.copied-course.result keep course.jobs course.lost.items course.rows c.none-course.result planned) (sym c.replace.ensures.after)
    (subst (λ (touched : Option (List ℕ)). Fits c.copied-course.result keep course.jobs course.lost.items course.rows touched (Some c.args.next.plan)) (sym c.none-course.ensures)
    (subst (λ (rates : LoadRates). Fits rates keep course.jobs course.lost.items course.rows (Some []) (Some c.args.next.plan)) (sym c.copied-course.ensures) c.requires.fits))

pub invariant_of-course-clause-first : goal.invariant_of-course-clause-first
invariant_of-course-clause-first c = λ yes.
    subst (λ (planned : Option Planned). AreOfFirst (graph_in planned) (known_in c.args.course.now.known)) (sym c.replace.ensures.after) c.requires.first
