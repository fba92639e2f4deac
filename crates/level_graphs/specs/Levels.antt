-- Level graphs: for each node, the fewest open arcs that lead there.
use Rattle.std.specs.Prelude.{◌≡◌, ℕ, ◌+◌, ◌<◌, ◌≤◌, List, slice_index}
use Rattle.level_graphs.specs.declared.network.Arc.{Arc}
use Rattle.level_graphs.specs.Arcs.{Reaches}

-- so many arcs lead to a node, and no fewer do
pub record IsNearest (arcs : List Arc) (source node k : ℕ) : Type 0 where
  pub reached : Reaches arcs source k node
  pub least : (j : ℕ) → Reaches arcs source j node → k ≤ j

-- a level is one more than the fewest arcs; a node has none, 0, where no arcs lead to it, or no fewer than to the sink
pub record IsLevelGraph (arcs : List Arc) (source sink : ℕ) (levels : List ℕ) : Type 0 where
  pub nearest : (v k : ℕ) → slice_index levels v ≡ k + 1 → IsNearest arcs source v k
  pub beyond : (v k : ℕ) → slice_index levels v ≡ 0 → Reaches arcs source k v → (0 < slice_index levels sink) × (slice_index levels sink ≤ k)
