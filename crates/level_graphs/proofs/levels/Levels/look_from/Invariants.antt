use Rattle.std.proofs.Common.{◌≡◌, length, get_or}
use Rattle.level_graphs.specs.inner.Rounds.{IsRound, Extends}
use Rattle.level_graphs.proofs.Lists.{AreLooked}
use Rattle.level_graphs.proofs.levels.Levels.look_from.Given as goal

abbrev pub invariant-loop-next : goal.invariant-loop-next
invariant-loop-next l = record {
  nodes : length l.self.of.items ≡ length l.initial.self.of.items;
  round : IsRound l.network l.self l.round;
  level : get_or l.self.of.items l.node 0 ≡ l.round.level;
  more : Extends l.initial.self l.self;
  looked : AreLooked l.network.arcs.items l.self.of.items l.node l.next;
}

abbrev pub decreases-loop-next : goal.decreases-loop-next
decreases-loop-next l = l.next
