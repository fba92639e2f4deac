-- A level graph under way: the nodes up to one level were reached, those below it were looked from.
use Rattle.std.specs.Prelude.{◌≡◌, ◌≢◌, ℕ, ◌+◌, ◌<◌, ◌≤◌, ◌==◌, List, length, slice_index, if◌then◌else◌}
use Rattle.std.specs.List.{sum_by}
use Rattle.level_graphs.specs.declared.network.Arc.{Arc}
use Rattle.level_graphs.specs.declared.network.Network.{Network}
use Rattle.level_graphs.specs.declared.levels.Levels.{Levels}
use Rattle.level_graphs.specs.declared.levels.Round.{Round}
use Rattle.level_graphs.specs.Arcs.{Leads, Reaches}

-- one for each node without a level
abbrev pub unseen : ℕ → ℕ
unseen level = if level == 0 then 1 else 0

-- a node stands in these places of a queue
pub record StandsWithin (queue : List ℕ) (low high node : ℕ) : Type 0 where
  pub place : ℕ
  pub from : low ≤ place
  pub below : place < high
  pub is : slice_index queue place ≡ node

-- levels and a queue: nodes of this level from `start` to `end`, those of the next level behind
pub record IsFrontier (arcs : List Arc) (source : ℕ) (of queue : List ℕ) (level start end : ℕ) : Type 0 where
  pub first : slice_index of source ≡ 1
  pub some : 1 ≤ level
  pub most : (v : ℕ) → slice_index of v ≤ level + 1
  pub traced : (v k : ℕ) → slice_index of v ≡ k + 1 → Reaches arcs source k v
  pub closed : (u v : ℕ) → 1 ≤ slice_index of u → slice_index of u < level → Leads arcs u v → (1 ≤ slice_index of v) × (slice_index of v ≤ slice_index of u + 1)
  pub ordered : start ≤ end
  pub filled : end ≤ length queue
  pub here : (p : ℕ) → start ≤ p → p < end → slice_index of (slice_index queue p) ≡ level
  pub next : (p : ℕ) → end ≤ p → p < length queue → slice_index of (slice_index queue p) ≡ level + 1
  pub all_here : (v : ℕ) → slice_index of v ≡ level → StandsWithin queue start end v
  pub all_next : (v : ℕ) → slice_index of v ≡ level + 1 → StandsWithin queue end (length queue) v
  pub counted : sum_by unseen of + length queue ≡ length of
  pub early : level ≤ start + 1

pub record IsRound (network : Network) (levels : Levels) (round : Round) : Type 0 where
  pub nodes : length levels.of.items ≡ length network.last.items
  pub frontier : IsFrontier network.arcs.items network.source levels.of.items levels.queue.items round.level round.start round.end

-- levels that were given stay, and so do the places in the queue
pub record Extends (before after : Levels) : Type 0 where
  pub count : length before.queue.items ≤ length after.queue.items
  pub levels : (v : ℕ) → slice_index before.of.items v ≢ 0 → slice_index after.of.items v ≡ slice_index before.of.items v
  pub places : (p : ℕ) → p < length before.queue.items → slice_index after.queue.items p ≡ slice_index before.queue.items p

-- each node to which an open arc leads from this one has a level
abbrev pub IsSeen : Network → Levels → ℕ → Type 0
IsSeen network levels node = (v : ℕ) → Leads network.arcs.items node v → 1 ≤ slice_index levels.of.items v
