use Rattle.std.proofs.Common.{◌≡◌, ◌≤◌, ◌+◌, ◌-◌, ℕ, vec_len}
use Rattle.level_graphs.specs.Arcs.{IsNetwork, Reaches}
use Rattle.level_graphs.specs.Flow.{IsFlow}
use Rattle.level_graphs.proofs.fill.send_all.Given as goal

abbrev pub invariant-loop-blocking : goal.invariant-loop-blocking
invariant-loop-blocking l = record {
  network : IsNetwork l.network;
  last : l.network.last ≡ l.initial.network.last;
  source : l.network.source ≡ l.initial.network.source;
  sink : l.network.sink ≡ l.initial.network.sink;
  flow : IsFlow l.initial.network.arcs.items l.network.arcs.items l.initial.network.source l.initial.network.sink;
  levels : vec_len l.levels.of ≡ vec_len l.initial.network.last;
  current : vec_len l.blocking.current ≡ vec_len l.initial.network.last;
  path : vec_len l.blocking.path ≡ vec_len l.initial.network.last;
  counted : l.initial.phases.count ≤ l.phases.count;
  few : l.phases.count + 2 ≤ l.initial.phases.count + vec_len l.initial.network.last;
  far : (k : ℕ) → Reaches l.network.arcs.items l.network.source k l.network.sink → l.phases.count + 2 ≤ l.initial.phases.count + k;
}

abbrev pub decreases-loop-blocking : goal.decreases-loop-blocking
decreases-loop-blocking l = l.initial.phases.count + vec_len l.initial.network.last - l.phases.count
