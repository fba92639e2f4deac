use Rattle.workflow_check.proofs.Ways.{further_at, one_at, round_at}
use Rattle.workflow_check.proofs.circles.is_circle.Goals as goal

pub up-init : goal.up-init
up-init c = one_at c.args.steps.now c.args.link.waits c.args.link.source c.if-not-is_linked.ensures

pub returns-then-top-link : goal.returns-then-top-link
returns-then-top-link c = round_at c.args.steps.now c.up.top c.args.link.source c.if-top-link.true c.up.invariant

pub up-preserved : goal.up-preserved
up-preserved c = further_at c.args.steps.now c.above-next.result c.up.top c.args.link.source c.if-not-is_linked-2.ensures c.up.invariant
