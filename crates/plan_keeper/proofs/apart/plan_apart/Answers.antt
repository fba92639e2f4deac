use Rattle.std.proofs.Common.{rules}
use Rattle.plan_keeper.specs.Apart.{AreApart}
use Rattle.plan_keeper.proofs.Alone.{planned_apart}
use Rattle.plan_keeper.proofs.apart.plan_apart.Goals as goal

pub returns-clause-least : goal.returns-clause-least
returns-clause-least c =
    let apart : AreApart c.vertices-vertices.result.now = search rules in
    (planned_apart c.args.graph.now c.vertices-vertices.result.now c.in_ok-marks.marks.items c.from_vec.result c.in_ok-charges.charges c.vertices-vertices.ensures.list c.from_vec.ensures c.vertices-vertices.ensures.within apart c.in_ok-marks.ensures c.in_ok-charges.ensures).0

pub returns-clause-certified : goal.returns-clause-certified
returns-clause-certified c =
    let apart : AreApart c.vertices-vertices.result.now = search rules in
    (planned_apart c.args.graph.now c.vertices-vertices.result.now c.in_ok-marks.marks.items c.from_vec.result c.in_ok-charges.charges c.vertices-vertices.ensures.list c.from_vec.ensures c.vertices-vertices.ensures.within apart c.in_ok-marks.ensures c.in_ok-charges.ensures).1
