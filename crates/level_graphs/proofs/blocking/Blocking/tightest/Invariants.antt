use Rattle.std.proofs.Common.{◌≡◌, ◌<◌, ◌≤◌, ℕ, get_or}
use Rattle.level_graphs.specs.Arcs.{room_at}
use Rattle.level_graphs.proofs.blocking.Blocking.tightest.Given as goal

abbrev pub invariant-loop-place : goal.invariant-loop-place
invariant-loop-place l = record {
  some : 1 ≤ l.full;
  place : l.full < l.top;
  is : l.most ≡ room_at l.network.arcs.items (get_or l.self.path.items l.full 0);
  least : (j : ℕ) → 1 ≤ j → j < l.place → l.most ≤ room_at l.network.arcs.items (get_or l.self.path.items j 0);
}
