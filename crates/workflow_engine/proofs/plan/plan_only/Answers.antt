use Rattle.std.proofs.lemmas.Result.{err_from_is_err_and}
use Rattle.workflow_engine.proofs.Looked.{is_shown, no_plan_after, no_plan_begun, plan_after, rests_at_first}
use Rattle.workflow_engine.proofs.Recorded.{plan_blames_host, plan_blames_record}
use Rattle.workflow_engine.proofs.plan.plan_only.Goals as goal

pub look-requires : goal.look-requires
look-requires g c = rests_at_first c.in_ok-core.ensures.ok

pub told-requires : goal.told-requires
told-requires g c =
    let halts = c.halt.ensures c.in-Ok.ensures.rest in is_shown halts.plans c.halt.result.planned halts.shows

pub returns-in-Ok-clause-plans : goal.returns-in-Ok-clause-plans
returns-in-Ok-clause-plans g c =
    plan_after _ _ _ _ _ _ _ _ c.args.process.now c.args.inputs.now c.args.options _ c.look.new.core c.in_ok-core.ensures.ok c.look.ensures.looks c.halt.result
    c.in-Ok.ensures.done (c.halt.ensures c.in-Ok.ensures.rest) c.told.ensures

pub returns-in-Ok-clause-fault : goal.returns-in-Ok-clause-fault
returns-in-Ok-clause-fault g c = plan_blames_host _ (returns-in-Ok-clause-plans g c)

pub returns-in-Ok-clause-record : goal.returns-in-Ok-clause-record
returns-in-Ok-clause-record g c = plan_blames_record _ (returns-in-Ok-clause-plans g c)

pub returns-in-Err-clause-plans : goal.returns-in-Err-clause-plans
returns-in-Err-clause-plans g c =
    rw c.in-Err.ensures.err
    (no_plan_after _ _ _ _ _ _ _ _ c.args.process.now c.args.inputs.now c.args.options _ c.look.new.core c.in_ok-core.ensures.ok c.look.ensures.looks c.finish.result
    c.finish.ensures.concluded)

pub returns-in_err-core-clause-plans : goal.returns-in_err-core-clause-plans
returns-in_err-core-clause-plans g c =
    let p = err_from_is_err_and c.from_residual.result c.from_residual.ensures.1 in
    rw (p.1, p.2, c.in_err-core.ensures.err) (no_plan_begun c.each_has_least.ensures _ _ _ _ c.args.process.now c.args.inputs.now c.args.options)

pub returns-in_err-core-clause-fault : goal.returns-in_err-core-clause-fault
returns-in_err-core-clause-fault g c = plan_blames_host _ (returns-in_err-core-clause-plans g c)

pub returns-in_err-core-clause-record : goal.returns-in_err-core-clause-record
returns-in_err-core-clause-record g c = plan_blames_record _ (returns-in_err-core-clause-plans g c)

pub returns-in-Err-clause-fault : goal.returns-in-Err-clause-fault
returns-in-Err-clause-fault g c = plan_blames_host _ (returns-in-Err-clause-plans g c)

pub returns-in-Err-clause-record : goal.returns-in-Err-clause-record
returns-in-Err-clause-record g c = plan_blames_record _ (returns-in-Err-clause-plans g c)
