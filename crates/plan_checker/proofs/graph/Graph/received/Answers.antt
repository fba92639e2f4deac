use Rattle.plan_checker.proofs.ParentLists.{child_is_there}
use Rattle.plan_checker.proofs.graph.Graph.received.Goals as goal

pub amount_from-requires-clause-numbered : goal.amount_from-requires-clause-numbered
amount_from-requires-clause-numbered c =
    (child_is_there _ _ _ _ _ _ _ _ _ c.self.view_is c.requires.counted c.self.invariant.1 c.requires.there c.index.ensures c.as_slice-child-items.ensures c.loop-child-test.true).0

pub amount_from-requires-clause-placed : goal.amount_from-requires-clause-placed
amount_from-requires-clause-placed c =
    (child_is_there _ _ _ _ _ _ _ _ _ c.self.view_is c.requires.counted c.self.invariant.1 c.requires.there c.index.ensures c.as_slice-child-items.ensures c.loop-child-test.true).1
