use Rattle.std.proofs.Common.{◌≡◌, ◌-◌, length}
use Rattle.level_graphs.specs.inner.Rounds.{IsRound}
use Rattle.level_graphs.proofs.levels.Levels.build.Given as goal

abbrev pub invariant-loop-round : goal.invariant-loop-round
invariant-loop-round l = record {
  nodes : length l.self.of.items ≡ length l.initial.self.of.items;
  round : IsRound l.network l.self l.round;
  last : l.round.end ≡ length l.self.queue.items;
}

abbrev pub decreases-loop-round : goal.decreases-loop-round
decreases-loop-round l = length l.initial.self.of.items - l.round.start
