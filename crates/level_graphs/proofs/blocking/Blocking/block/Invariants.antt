use Rattle.std.proofs.Common.{◌≡◌, vec_len}
use Rattle.level_graphs.specs.Arcs.{IsNetwork}
use Rattle.level_graphs.specs.Blocked.{AreSentDown}
use Rattle.level_graphs.specs.Flow.{IsFlow}
use Rattle.level_graphs.specs.inner.Search.{left_of, IsSearch}
use Rattle.level_graphs.proofs.blocking.Blocking.block.Given as goal

abbrev pub invariant-loop-next : goal.invariant-loop-next
invariant-loop-next l = record {
  network : IsNetwork l.network;
  nodes : l.network.last ≡ l.initial.network.last;
  source : l.network.source ≡ l.initial.network.source;
  sink : l.network.sink ≡ l.initial.network.sink;
  current : vec_len l.self.current ≡ vec_len l.initial.self.current;
  path : vec_len l.self.path ≡ vec_len l.initial.self.path;
  search : IsSearch l.network l.levels.of.items l.self l.node;
  flow : IsFlow l.initial.network.arcs.items l.network.arcs.items l.initial.network.source l.initial.network.sink;
  sent : AreSentDown l.initial.network.arcs.items l.network.arcs.items l.levels.of.items;
}

abbrev pub decreases-loop-next : goal.decreases-loop-next
decreases-loop-next l = left_of l.self l.levels.of.items l.node
