use Rattle.std.proofs.Common.{Err, IfOk, Result, subst, sym}
use Rattle.std.specs.Prelude.{zip}
use Rattle.std.proofs.lemmas.Result.{IfOk-weaker}
use Rattle.workflow_engine.specs.declared.planned.PlanFault.{PlanFault}
use Rattle.workflow_engine.specs.declared.planned.Planned.{Planned}
use Rattle.plan_call.specs.Plans.{IsPlanTold, failed, told}
use Rattle.end_words.specs.declared.exit.Exit.{Exit}
use Rattle.end_words.specs.declared.exit.Exit.TheVariants.{Plan}
use Rattle.plan_call.proofs.plan_texts.exit_of_plan.Goals as goal

pub returns-in_ok-texts-in-Ok : goal.returns-in_ok-texts-in-Ok
returns-in_ok-texts-in-Ok c =
    subst (λ (m : Result Planned PlanFault). IsPlanTold c.args.process.now (zip c.args.kept.now.parts c.args.kept.now.costs) c.args.dot c.args.log.now m (Plan c.in_ok-texts-in-Ok.field-0)) (sym c.in-Ok.is)
    (told _ _ c.in_ok-texts-in-Ok.ensures)

pub returns-in-Err : goal.returns-in-Err
returns-in-Err c =
    subst (λ (m : Result Planned PlanFault). IfOk c.exit_of_fault.result (IsPlanTold c.args.process.now (zip c.args.kept.now.parts c.args.kept.now.costs) c.args.dot c.args.log.now m)) (sym c.in-Err.is)
    (IfOk-weaker c.exit_of_fault.result _ _
    (λ exit same. subst (λ (e : Exit). IsPlanTold c.args.process.now (zip c.args.kept.now.parts c.args.kept.now.costs) c.args.dot c.args.log.now (Err c.in-Err.fault) e) (sym same) (failed c.in-Err.fault)) c.exit_of_fault.ensures)
