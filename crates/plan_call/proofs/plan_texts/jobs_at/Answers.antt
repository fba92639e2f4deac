use Rattle.std.proofs.Common.{arith}
use Rattle.plan_call.proofs.PlannedJobs.{jobs_all, jobs_more}
use Rattle.plan_call.proofs.plan_texts.jobs_at.Goals as goal

pub loop-number-preserved : goal.loop-number-preserved
loop-number-preserved c =
    jobs_more c.args.places.now c.args.known.now c.requires c.loop-number.number _ _ _ (omega arith) c.loop-number.invariant c.in_ok-job_at.ensures c.in_ok-push.ensures.items

pub returns : goal.returns
returns c = jobs_all c.args.places.now c.args.known.now c.requires _ c.loop-number.number (omega arith) c.loop-number.invariant
