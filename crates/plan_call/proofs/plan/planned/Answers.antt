use Rattle.std.specs.Prelude.{zip}
use Rattle.run_rules.specs.declared.setting.Setting.{Setting}
use Rattle.plan_call.proofs.Plans.{counted_of, planned_so}
use Rattle.plan_call.proofs.plan.planned.Goals as goal

pub exit_of_plan-exit-requires : goal.exit_of_plan-exit-requires
exit_of_plan-exit-requires g c =
    let setting : Setting = record { process = c.args.given.now.process; inputs = c.args.given.now.inputs; options = c.args.options } in
    counted_of setting c.plan_only-made.ensures.plans.transcript c.plan_only-made.result c.plan_only-made.ensures.plans.told

pub returns-clause-exit : goal.returns-clause-exit
returns-clause-exit g c =
    planned_so c.args.given.now.process c.args.given.now.inputs c.args.options (zip c.args.kept.now.parts c.args.kept.now.costs) c.args.dot _ _ c.plan_only-made.ensures.plans.transcript c.plan_only-made.result
    c.exit_of_plan-exit.result _ c.plan_only-made.ensures.plans.looks c.plan_only-made.ensures.plans.logged c.plan_only-made.ensures.plans.told
    (rw c.log.ensures at c.exit_of_plan-exit.ensures) c.noted-end.ensures.exit
