use Rattle.std.specs.Prelude.{zip}
use Rattle.run_facts.proofs.EarlierJobs.{earlier_more, none_yet}
use Rattle.run_facts.proofs.earlier_jobs.earlier_of.Goals as goal

pub loop-step-init : goal.loop-step-init
loop-step-init c = none_yet c.args.process.now (zip c.args.jobs.now c.args.costs.now) c.args.steps.now _ c.new-found.ensures.items

pub loop-step-preserved : goal.loop-step-preserved
loop-step-preserved c =
    earlier_more c.args.process.now (zip c.args.jobs.now c.args.costs.now) c.args.steps.now c.loop-step.step-index _ _ c.step-item.result c.in_ok-own.own
    c.loop-step-test.true c.step-item.is c.loop-step.invariant c.in_ok-own.ensures c.in_ok-add_found.ensures
