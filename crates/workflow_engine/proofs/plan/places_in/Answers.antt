use Rattle.std.proofs.Common.{◌∙◌}
use Rattle.workflow_engine.proofs.Placed.{all_placed}
use Rattle.workflow_engine.proofs.plan.places_in.Goals as goal

pub returns : goal.returns
returns c =
    c.from_vec.ensures ∙ c.loop-one.invariant
    ∙ all_placed c.known-jobs.result.now c.loop-one.one-index c.args.known.now.known c.loop-one-test.false c.known-jobs.ensures.jobs
