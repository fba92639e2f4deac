use Rattle.run_core.specs.inner.Course.{past_of}
use Rattle.run_core.specs.inner.Planning.{costs_at}
use Rattle.run_core.proofs.FewTouched.{more_costs}
use Rattle.run_core.proofs.few.costs_from.Goals as goal

pub loop-number-preserved : goal.loop-number-preserved
loop-number-preserved c =
    more_costs (costs_at c.args.given.now (past_of c.args.course.now)) c.args.from c.loop-number.number c.loop-number.costs.items c.push.new.self.items c.costs_at.result c.loop-number.invariant
    c.costs_at.ensures.costs c.in_ok-push.ensures.items
