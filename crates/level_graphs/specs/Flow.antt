-- What is sent from a source to a sink, and when no more can be sent.
use Rattle.std.specs.Prelude.{◌≡◌, ◌≢◌, ℕ, zero, suc, ◌+◌, ◌==◌, List, length, if◌then◌else◌}
use Rattle.level_graphs.specs.declared.network.Arc.{Arc}
use Rattle.level_graphs.specs.Arcs.{reverse_of, tail_of, room_at, Reaches, HaveEnds}

-- no arcs with room lead to the sink
abbrev pub IsCut : List Arc → ℕ → ℕ → Type 0
IsCut arcs source sink = (k : ℕ) → Reaches arcs source k sink → ⊥

-- the sum of what these numbers stand for, over those below one
abbrev pub sum_below : ℕ → (ℕ → ℕ) → ℕ
sum_below zero f = 0
sum_below (suc n) f = sum_below n f + f n

-- what more can leave a node: the rooms of the arcs from there, together
abbrev pub room_out : List Arc → ℕ → ℕ
room_out arcs node = sum_below (length arcs) (λ a. if tail_of arcs a == node then room_at arcs a else 0)

-- a flow was sent from a source to a sink: the rooms of an arc and its reverse are together as before, and so is what more can leave any other node
pub record IsFlow (before after : List Arc) (source sink : ℕ) : Type 0 where
  pub ends : HaveEnds before after
  pub pairs : (a : ℕ) → room_at after a + room_at after (reverse_of a) ≡ room_at before a + room_at before (reverse_of a)
  pub kept : (v : ℕ) → v ≢ source → v ≢ sink → room_out after v ≡ room_out before v
