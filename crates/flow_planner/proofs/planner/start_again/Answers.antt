use Rattle.flow_planner.proofs.Bounds.{flowing_from}
use Rattle.flow_planner.proofs.planner.start_again.Goals as goal

pub returns-then-branch : goal.returns-then-branch
returns-then-branch c = flowing_from c.args.graph.now c.in_ok-start.start (c.in_ok-are_fair.ensures c.if-branch.true)

pub returns : goal.returns
returns c = c.nothing.ensures c.args.graph.now
