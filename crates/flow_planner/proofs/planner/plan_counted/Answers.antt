use Rattle.std.proofs.Common.{length, ap, arith}
use Rattle.flow_planner.proofs.Bounds.{length-graph-le}
use Rattle.flow_planner.proofs.Separated.{planned}
use Rattle.flow_planner.proofs.planner.plan_counted.Goals as goal

pub greatest-requires-clause-few : goal.greatest-requires-clause-few
greatest-requires-clause-few c =
    let few = length-graph-le c.args.graph.now c.vertices.ensures.within in
    let same = ap length c.vertices.ensures.list in
    omega arith

pub returns-clause-least : goal.returns-clause-least
returns-clause-least c = (planned c.args.graph.now c.vertices.result.now _ _ c.vertices.ensures.list c.vertices.ensures.within c.in_ok-greatest.ensures.made.0 c.in_ok-greatest.ensures.made.1).least

pub returns-clause-certified : goal.returns-clause-certified
returns-clause-certified c = (planned c.args.graph.now c.vertices.result.now _ _ c.vertices.ensures.list c.vertices.ensures.within c.in_ok-greatest.ensures.made.0 c.in_ok-greatest.ensures.made.1).certified

pub returns-clause-separated : goal.returns-clause-separated
returns-clause-separated c = (planned c.args.graph.now c.vertices.result.now _ _ c.vertices.ensures.list c.vertices.ensures.within c.in_ok-greatest.ensures.made.0 c.in_ok-greatest.ensures.made.1).separated

pub greatest-requires-clause-flowing : goal.greatest-requires-clause-flowing
greatest-requires-clause-flowing c = c.nothing-start.ensures c.vertices.result.now
