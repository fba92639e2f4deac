-- Networks: arcs that lie beside their reverses, lists of the arcs from each node, and how many open arcs lead to a node.
use Rattle.std.specs.Prelude.{◌≡◌, ◌≢◌, ℕ, zero, suc, ◌+◌, ◌-◌, ◌*◌, ◌%◌, ◌<◌, ◌≤◌, ◌^◌, min, List, length, slice_index, slice_index_or, slice_set}
use Rattle.level_graphs.specs.declared.network.Arc.{Arc}
use Rattle.level_graphs.specs.declared.network.Network.{Network}

-- what is read past the last arc
abbrev pub no_arc : Arc
no_arc = record { to = 0; room = 0; next = 0 }

abbrev pub arc_at : List Arc → ℕ → Arc
arc_at arcs a = slice_index_or arcs a no_arc

-- an even number and the next one are a pair
abbrev pub reverse_of : ℕ → ℕ
reverse_of a = a + 1 - 2 * (a % 2)

-- the nodes from which an arc leads, and to which
abbrev pub tail_of : List Arc → ℕ → ℕ
tail_of arcs a = (arc_at arcs (reverse_of a)).to

abbrev pub head_of : List Arc → ℕ → ℕ
head_of arcs a = (arc_at arcs a).to

abbrev pub room_at : List Arc → ℕ → ℕ
room_at arcs a = (arc_at arcs a).room

-- an arc with room leads from one node to another
pub record Leads (arcs : List Arc) (from to : ℕ) : Type 0 where
  pub arc : ℕ
  pub inside : arc < length arcs
  pub tail : tail_of arcs arc ≡ from
  pub head : head_of arcs arc ≡ to
  pub some : 0 < room_at arcs arc

-- so many arcs with room lead, one after the other, from a source to a node
abbrev pub Reaches : List Arc → ℕ → ℕ → ℕ → Type 0
Reaches arcs source zero node = node ≡ source
Reaches arcs source (suc k) node = (before : ℕ) × Reaches arcs source k before × Leads arcs before node

-- the same arcs, with other rooms
pub record HaveEnds (before after : List Arc) : Type 0 where
  pub count : length after ≡ length before
  pub head : (a : ℕ) → head_of after a ≡ head_of before a
  pub next : (a : ℕ) → (arc_at after a).next ≡ (arc_at before a).next

-- counted from 1, the last arc from a node among those below `top`; 0 where there is none
pub record IsLastBelow (arcs : List Arc) (node top number : ℕ) : Type 0 where
  pub within : number ≤ top
  pub leaves : 0 < number → tail_of arcs (number - 1) ≡ node
  pub none : (a : ℕ) → number ≤ a → a < top → tail_of arcs a ≢ node

-- arcs in pairs, between nodes, and a list of the arcs from each node, the last one first
pub record AreListed (arcs : List Arc) (last : List ℕ) : Type 0 where
  pub paired : length arcs % 2 ≡ 0
  pub heads : (a : ℕ) → a < length arcs → head_of arcs a < length last
  pub lasts : (u : ℕ) → u < length last → IsLastBelow arcs u (length arcs) (slice_index last u)
  pub nexts : (a : ℕ) → a < length arcs → IsLastBelow arcs (tail_of arcs a) a (arc_at arcs a).next

-- such arcs and lists, with a source and a sink that no arc joins; a number has room for what an arc and its reverse have
pub record IsNetwork (network : Network) : Type 0 where
  pub listed : AreListed network.arcs.items network.last.items
  pub bounded : (a : ℕ) → room_at network.arcs.items a + room_at network.arcs.items (reverse_of a) < 2 ^ 64
  pub source : network.source < length network.last.items
  pub sink : network.sink < length network.last.items
  pub ends : network.source ≢ network.sink
  pub apart : (a : ℕ) → a < length network.arcs.items → tail_of network.arcs.items a ≡ network.source → head_of network.arcs.items a ≢ network.sink

-- two more arcs: one with so much room, and its reverse with none
pub record HasArcs (before after : List Arc) (from to room : ℕ) : Type 0 where
  pub count : length after ≡ length before + 2
  pub kept : (a : ℕ) → a < length before → arc_at after a ≡ arc_at before a
  pub forward : (head_of after (length before) ≡ to) × (room_at after (length before) ≡ room)
  pub back : (head_of after (length before + 1) ≡ from) × (room_at after (length before + 1) ≡ 0)

-- arcs of which one has another room
abbrev pub with_room : List Arc → ℕ → ℕ → List Arc
with_room arcs a room = slice_set arcs a (record { to = head_of arcs a; room = room; next = (arc_at arcs a).next })

-- arcs when so much more was sent along one: it has less room, and its reverse more, as far as 64 bits go
abbrev pub pushed : List Arc → ℕ → ℕ → List Arc
pushed arcs a amount =
    let less = with_room arcs a (room_at arcs a - amount) in
    with_room less (reverse_of a) (min (room_at less (reverse_of a) + amount) (2 ^ 64 - 1))
