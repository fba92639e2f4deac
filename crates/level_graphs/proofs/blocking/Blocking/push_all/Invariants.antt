use Rattle.std.proofs.Common.{◌≡◌, ◌-◌, ◌<◌, ◌≤◌, ℕ, get_or}
use Rattle.level_graphs.specs.Arcs.{IsNetwork, room_at, tail_of}
use Rattle.level_graphs.specs.inner.Search.{AreSentAlong, IsFlowTo}
use Rattle.level_graphs.proofs.blocking.Blocking.push_all.Given as goal

abbrev pub invariant-loop-place : goal.invariant-loop-place
invariant-loop-place l = record {
  network : IsNetwork l.network;
  nodes : l.network.last ≡ l.initial.network.last;
  source : l.network.source ≡ l.initial.network.source;
  sink : l.network.sink ≡ l.initial.network.sink;
  sent : AreSentAlong l.initial.network.arcs.items l.network.arcs.items l.self.path.items l.place;
  ahead : (j : ℕ) → l.place ≤ j → j < l.top → room_at l.network.arcs.items (get_or l.self.path.items j 0) ≡ room_at l.initial.network.arcs.items (get_or l.self.path.items j 0);
  flow : (u : ℕ) → (l.place < l.top → tail_of l.initial.network.arcs.items (get_or l.self.path.items l.place 0) ≡ u) → (l.place ≡ l.top → l.initial.network.sink ≡ u) → IsFlowTo l.initial.network.arcs.items l.network.arcs.items l.initial.network.source u l.amount;
  rooms : (j : ℕ) → 1 ≤ j → j < l.place → room_at l.network.arcs.items (get_or l.self.path.items j 0) ≤ room_at l.initial.network.arcs.items (get_or l.self.path.items j 0) - l.amount;
}
