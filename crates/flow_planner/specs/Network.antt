-- The network in which the charges of a graph flow, and the plan that a level graph of it shows.
use Rattle.std.specs.Prelude.{◌≡◌, ℕ, ◌+◌, ◌*◌, ◌<◌, ◌==◌, List, length, slice_index, unwrap_or, if◌then◌else◌}
use Rattle.plan_checker.specs.declared.vertex.Vertex.{Vertex}
use Rattle.plan_checker.specs.declared.plan.Mark.{Mark}
use Rattle.plan_checker.specs.declared.plan.Mark.TheVariants.{Load, Compute, Prune}
use Rattle.plan_checker.specs.declared.charges.Charges.{Charges}
use Rattle.plan_checker.specs.Graph.{vertex, entries_below}
use Rattle.plan_checker.specs.Plan.{mark}
use Rattle.plan_checker.specs.Charges.{passes}
use Rattle.level_graphs.specs.declared.network.Arc.{Arc}
use Rattle.level_graphs.specs.Arcs.{head_of, room_at}
use Rattle.level_graphs.specs.Levels.{IsLevelGraph}
use Rattle.flow_planner.specs.declared.network.TheConstants.{NO_BOUND}

-- the first arc of job i: behind three pairs of arcs for each job below it, and one for each parent of theirs
abbrev pub first_arc : List Vertex → ℕ → ℕ
first_arc graph i = 2 * (3 * i + entries_below graph i)

-- an arc and its reverse, the next one: an amount flows along the arc, and what is left of its capacity is its room
pub record Carries (arcs : List Arc) (a from to capacity amount : ℕ) : Type 0 where
  pub inside : a + 1 < length arcs
  pub head : head_of arcs a ≡ to
  pub back : head_of arcs (a + 1) ≡ from
  pub room : room_at arcs a + amount ≡ capacity
  pub flow : room_at arcs (a + 1) ≡ amount

-- the arcs of job i with its first so many parents: from the source to its first node, from there to its second, from
-- there to the sink, and to the first node of each parent
pub record CarriesJob (graph : List Vertex) (charges : Charges) (arcs : List Arc) (i parents : ℕ) : Type 0 where
  pub enter :
      Carries arcs (first_arc graph i) (2 * length graph) i
      (if (vertex graph i).needed then NO_BOUND else 0) (slice_index charges.enter i)
  pub through :
      Carries arcs (first_arc graph i + 2) i (length graph + i)
      (unwrap_or (vertex graph i).load NO_BOUND) (slice_index charges.through i)
  pub pay :
      Carries arcs (first_arc graph i + 4) (length graph + i) (2 * length graph + 1)
      (vertex graph i).compute (slice_index charges.pay i)
  pub pass :
      (k : ℕ) → k < parents →
      Carries arcs (first_arc graph i + 6 + 2 * k) (length graph + i) (slice_index (vertex graph i).parents k)
      NO_BOUND (slice_index (passes charges i) k)

-- the arcs of the first so many jobs of a graph, with what flows along each of them
pub record CarriesJobs (graph : List Vertex) (charges : Charges) (arcs : List Arc) (jobs : ℕ) : Type 0 where
  pub count : length arcs ≡ first_arc graph jobs
  pub each : (i : ℕ) → i < jobs → CarriesJob graph charges arcs i (length (vertex graph i).parents)

-- what is done with a job, by the levels of its first node and its second
abbrev pub shown : ℕ → ℕ → Mark
shown first second = if second == 0 then (if first == 0 then Prune else Load) else Compute

-- the charges flow in the network of the graph, the level graph of it doesn't reach the sink, and the plan is what it shows;
-- there is one such level graph, since the charges tell the rooms of all arcs, and these the levels
pub record Separates (graph : List Vertex) (charges : Charges) (marks : List Mark) : Type 0 where
  pub arcs : List Arc
  pub levels : List ℕ
  pub carries : CarriesJobs graph charges arcs (length graph)
  pub level_graph : IsLevelGraph arcs (2 * length graph) (2 * length graph + 1) levels
  pub apart : slice_index levels (2 * length graph + 1) ≡ 0
  pub count : length marks ≡ length graph
  pub shows : (i : ℕ) → i < length graph → mark marks i ≡ shown (slice_index levels i) (slice_index levels (length graph + i))
