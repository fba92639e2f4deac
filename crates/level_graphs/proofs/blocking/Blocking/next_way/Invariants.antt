use Rattle.std.proofs.Common.{◌≤◌, get_or}
use Rattle.level_graphs.specs.inner.Search.{IsArcFrom, ArePassed}
use Rattle.level_graphs.proofs.blocking.Blocking.next_way.Given as goal

abbrev pub invariant-loop-next : goal.invariant-loop-next
invariant-loop-next l = record {
  from : IsArcFrom l.network.arcs.items l.node l.next;
  fewer : l.next ≤ get_or l.self.current.items l.node 0;
  passed : ArePassed l.network.arcs.items l.levels.of.items l.self.current.items l.network.source l.node l.next;
}

abbrev pub decreases-loop-next : goal.decreases-loop-next
decreases-loop-next l = l.next
