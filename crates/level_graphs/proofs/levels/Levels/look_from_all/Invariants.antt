use Rattle.std.proofs.Common.{◌≡◌, ℕ, ◌<◌, ◌≤◌, length, get_or}
use Rattle.level_graphs.specs.inner.Rounds.{IsRound, IsSeen}
use Rattle.level_graphs.proofs.levels.Levels.look_from_all.Given as goal

abbrev pub invariant-loop-place : goal.invariant-loop-place
invariant-loop-place l = record {
  nodes : length l.self.of.items ≡ length l.initial.self.of.items;
  round : IsRound l.network l.self l.round;
  seen : (p : ℕ) → l.round.start ≤ p → p < l.place → IsSeen l.network l.self (get_or l.self.queue.items p 0);
}
