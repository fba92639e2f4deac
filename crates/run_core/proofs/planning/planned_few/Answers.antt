use Rattle.std.proofs.Common.{◌∙◌, Some, ap, refl, sym}
use Rattle.run_core.proofs.FewPlans.{few_made, nothing_by_error, whole_ok}
use Rattle.run_core.proofs.Lists.{if_ok}
use Rattle.run_core.proofs.planning.planned_few.Goals as goal

pub returns-in-Ok-Some-clause-made : goal.returns-in-Ok-Some-clause-made
returns-in-Ok-Some-clause-made c =
    few_made c.args.given.now c.args.course.now c.args.few c.requires c.in-Some.known c.in-Some.is c.as_slice-changed.result.now c.as_slice-later.result.now c.as_slice-changed.ensures.value
    c.as_slice-later.ensures.value c.in-Ok-Some.field-0 c.in-Ok-Some.plan c.in-Ok-Some.field-0-is c.in-Ok-Some.ensures.ok c.in-Ok-Some.ensures.brought

pub returns-in-Ok-None-clause-made : goal.returns-in-Ok-None-clause-made
returns-in-Ok-None-clause-made c =
    whole_ok c.args.given.now c.args.course.now c.args.few c.requires c.in-Some.known c.in-Some.is _ c.planned_whole.result c.planned_whole.ensures.made
    (ap Some c.plan_touched.ensures.known ∙ sym c.in-Some.is) c.in-Ok-None.ensures.goes_on refl refl refl c.in-Ok-None.ensures.taken c.as_slice-changed.result.now c.as_slice-later.result.now
    c.as_slice-changed.ensures.value c.as_slice-later.ensures.value c.in-Ok-None.field-0 c.in-Ok-None.field-0-is c.in-Ok-None.ensures.brought

pub returns-clause-made : goal.returns-clause-made
returns-clause-made c =
    if_ok c.if_planned.result (λ made told. nothing_by_error c.args.given.now c.args.course.now c.in-Some.known c.in-Some.is c.in-Err.error c.in-Err.ensures.err made told) c.if_planned.ensures
