-- What goes down a level graph, and when no way down it is left.
use Rattle.std.specs.Prelude.{◌≡◌, ℕ, zero, suc, ◌+◌, ◌<◌, ◌≤◌, List, slice_index}
use Rattle.level_graphs.specs.declared.network.Arc.{Arc}
use Rattle.level_graphs.specs.Arcs.{tail_of, head_of, room_at, Leads, HaveEnds}

-- a node has a level, and another one is on the next level
pub record IsNext (levels : List ℕ) (from to : ℕ) : Type 0 where
  pub some : 1 ≤ slice_index levels from
  pub up : slice_index levels to ≡ slice_index levels from + 1

-- so many arcs with room lead, one after the other, from a source to a node, each of them from a level to the next one
abbrev pub Rises : List Arc → List ℕ → ℕ → ℕ → ℕ → Type 0
Rises arcs levels source zero node = node ≡ source
Rises arcs levels source (suc k) node = (before : ℕ) × Rises arcs levels source k before × Leads arcs before node × IsNext levels before node

-- no such arcs lead to the sink
abbrev pub IsBlocked : List Arc → List ℕ → ℕ → ℕ → Type 0
IsBlocked arcs levels source sink = (k : ℕ) → Rises arcs levels source k sink → ⊥

-- only arcs that lead to the next level have less room than before, and only arcs that lead back from there have more
pub record AreSentDown (before after : List Arc) (levels : List ℕ) : Type 0 where
  pub ends : HaveEnds before after
  pub less : (a : ℕ) → room_at after a < room_at before a → IsNext levels (tail_of before a) (head_of before a)
  pub more : (a : ℕ) → room_at before a < room_at after a → IsNext levels (head_of before a) (tail_of before a)
