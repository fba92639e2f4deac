use Rattle.plan_checker.proofs.ParentLists.{children_are}
use Rattle.plan_checker.proofs.graph.Graph.children.Goals as goal

pub returns : goal.returns
returns c = children_are _ _ _ _ _ _ c.self.view_is c.self.invariant.1 c.requires c.index.ensures c.as_slice.ensures
