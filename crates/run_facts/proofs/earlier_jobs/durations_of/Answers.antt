use Rattle.std.proofs.Common.{arith, refl}
use Rattle.run_facts.proofs.EarlierJobs.{durations_all, durations_more}
use Rattle.run_facts.proofs.earlier_jobs.durations_of.Goals as goal

pub loop-number-preserved : goal.loop-number-preserved
loop-number-preserved c =
    durations_more c.args.fields.now c.args.jobs.now c.args.costs.now c.loop-number.number _ _ c.index-jobs-number.result _ (omega arith) c.index-jobs-number.is refl c.loop-number.invariant c.in_ok-add_cost.ensures

pub returns : goal.returns
returns c = durations_all c.args.fields.now c.args.jobs.now c.args.costs.now _ c.loop-number.number (omega arith) c.loop-number.invariant
