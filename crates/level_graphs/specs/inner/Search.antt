-- A search for ways down a level graph, under way: from the sink back to a node, and on from there.
use Rattle.std.specs.Prelude.{◌≡◌, ◌≢◌, ℕ, ◌+◌, ◌-◌, ◌*◌, ◌<◌, ◌≤◌, List, length, sum, slice_index, ◌==◌, if◌then◌else◌}
use Rattle.level_graphs.specs.declared.network.Arc.{Arc}
use Rattle.level_graphs.specs.declared.network.Network.{Network}
use Rattle.level_graphs.specs.declared.blocking.Blocking.{Blocking}
use Rattle.level_graphs.specs.Arcs.{reverse_of, tail_of, head_of, room_at, HaveEnds}
use Rattle.level_graphs.specs.Blocked.{IsNext}
use Rattle.level_graphs.specs.Flow.{room_out}
use Rattle.level_graphs.specs.inner.Rounds.{StandsWithin}

-- what a search has to know of levels
pub record AreUseful (levels : List ℕ) (source sink count : ℕ) : Type 0 where
  pub first : slice_index levels source ≡ 1
  pub only : (v : ℕ) → slice_index levels v ≡ 1 → v ≡ source
  pub few : slice_index levels sink ≤ count

-- a node that is not the source and has passed all its arcs
pub record IsDead (current : List ℕ) (source node : ℕ) : Type 0 where
  pub none : slice_index current node ≡ 0
  pub other : node ≢ source

-- where an arc is open, leads to the next level and comes from such a node
abbrev pub IsSpent : List Arc → List ℕ → List ℕ → ℕ → ℕ → Type 0
IsSpent arcs levels current source a = 0 < room_at arcs a → IsNext levels (tail_of arcs a) (head_of arcs a) → IsDead current source (tail_of arcs a)

-- all arcs to a node, as far as its current arc has passed their reverses, are spent
abbrev pub ArePassed : List Arc → List ℕ → List ℕ → ℕ → ℕ → ℕ → Type 0
ArePassed arcs levels current source node number = (b : ℕ) → b < length arcs → tail_of arcs b ≡ node → number ≤ b → IsSpent arcs levels current source (reverse_of b)

-- counted from 1, an arc that leads from a node; 0 where there is none
pub record IsArcFrom (arcs : List Arc) (node number : ℕ) : Type 0 where
  pub within : number ≤ length arcs
  pub leaves : 0 < number → tail_of arcs (number - 1) ≡ node

-- an arc of the path, which leads from this level to the next one, and whose reverse is the current arc of the node there
pub record IsOnPath (arcs : List Arc) (levels current : List ℕ) (level arc : ℕ) : Type 0 where
  pub inside : arc < length arcs
  pub from : slice_index levels (tail_of arcs arc) ≡ level
  pub to : slice_index levels (head_of arcs arc) ≡ level + 1
  pub pointed : slice_index current (head_of arcs arc) ≡ reverse_of arc + 1

-- a path from a node on one level to the sink on another
pub record IsPath (arcs : List Arc) (levels current path : List ℕ) (sink node low top : ℕ) : Type 0 where
  pub some : 1 ≤ low
  pub ordered : low ≤ top
  pub each : (j : ℕ) → low ≤ j → j < top → IsOnPath arcs levels current j (slice_index path j)
  pub begins : low < top → tail_of arcs (slice_index path low) ≡ node
  pub linked : (j : ℕ) → low ≤ j → j + 1 < top → head_of arcs (slice_index path j) ≡ tail_of arcs (slice_index path (j + 1))
  pub ends : (j : ℕ) → low ≤ j → j + 1 ≡ top → head_of arcs (slice_index path j) ≡ sink
  pub none : low ≡ top → node ≡ sink

pub record IsSearch (network : Network) (levels : List ℕ) (blocking : Blocking) (node : ℕ) : Type 0 where
  pub nodes : length levels ≡ length network.last.items
  pub current : length blocking.current.items ≡ length network.last.items
  pub places : length blocking.path.items ≡ length network.last.items
  pub useful : AreUseful levels network.source network.sink (length network.last.items)
  pub pointing : (v : ℕ) → IsArcFrom network.arcs.items v (slice_index blocking.current.items v)
  pub passed : (v : ℕ) → ArePassed network.arcs.items levels blocking.current.items network.source v (slice_index blocking.current.items v)
  pub path : IsPath network.arcs.items levels blocking.current.items blocking.path.items network.sink node (slice_index levels node) (slice_index levels network.sink)

-- what is left to do: arcs to pass, and levels down to the source
abbrev pub left_of : Blocking → List ℕ → ℕ → ℕ
left_of blocking levels node = sum blocking.current.items * (length blocking.current.items + 1) + slice_index levels node

-- an arc to a node that is open and comes from the level before, as its reverse shows
pub record IsWayBack (arcs : List Arc) (levels : List ℕ) (before b : ℕ) : Type 0 where
  pub room : 0 < room_at arcs (reverse_of b)
  pub up : slice_index levels (head_of arcs b) ≡ before

-- a way from the source to the sink, at the places up to this one: no arc is there twice, and none beside its reverse
pub record IsWay (arcs : List Arc) (path : List ℕ) (source sink top : ℕ) : Type 0 where
  pub inside : (j : ℕ) → 1 ≤ j → j < top → slice_index path j < length arcs
  pub begins : tail_of arcs (slice_index path 1) ≡ source
  pub linked : (j : ℕ) → 1 ≤ j → j + 1 < top → head_of arcs (slice_index path j) ≡ tail_of arcs (slice_index path (j + 1))
  pub ends : (j : ℕ) → 1 ≤ j → j + 1 ≡ top → head_of arcs (slice_index path j) ≡ sink
  pub apart : (i j : ℕ) → 1 ≤ i → i < top → 1 ≤ j → j < top → slice_index path i ≢ reverse_of (slice_index path j)
  pub once : (i j : ℕ) → 1 ≤ i → i < j → j < top → slice_index path i ≢ slice_index path j

-- an amount at one node, and nothing at the others
abbrev pub only_at : ℕ → ℕ → ℕ → ℕ
only_at v amount w = if v == w then amount else 0

-- a flow under way: an amount has left the source and come to a node
pub record IsFlowTo (before after : List Arc) (source node amount : ℕ) : Type 0 where
  pub pairs : (a : ℕ) → room_at after a + room_at after (reverse_of a) ≡ room_at before a + room_at before (reverse_of a)
  pub moved : (w : ℕ) → room_out after w + only_at source amount w ≡ room_out before w + only_at node amount w

-- only arcs of a path have less room than before, and only their reverses have more
pub record AreSentAlong (before after : List Arc) (path : List ℕ) (top : ℕ) : Type 0 where
  pub ends : HaveEnds before after
  pub less : (a : ℕ) → room_at after a < room_at before a → StandsWithin path 1 top a
  pub more : (a : ℕ) → room_at before a < room_at after a → StandsWithin path 1 top (reverse_of a)
