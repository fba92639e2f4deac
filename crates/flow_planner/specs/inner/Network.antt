-- The network of a graph while it is built, and charges while they are read off it.
use Rattle.std.specs.Prelude.{◌≡◌, ℕ, ◌+◌, ◌*◌, ◌<◌, List, [], length, sum, EachIndex, vec_len, slice_index, slice_index_or}
use Rattle.plan_checker.specs.declared.vertex.Vertex.{Vertex}
use Rattle.plan_checker.specs.declared.plan.Mark.{Mark}
use Rattle.plan_checker.specs.declared.charges.Charges.{Charges}
use Rattle.plan_checker.specs.Sums.{sum_below}
use Rattle.plan_checker.specs.Graph.{vertex}
use Rattle.plan_checker.specs.Plan.{mark}
use Rattle.plan_checker.specs.Charges.{passes, IsFair}
use Rattle.level_graphs.specs.declared.network.Arc.{Arc}
use Rattle.level_graphs.specs.declared.network.Network.{Network}
use Rattle.level_graphs.specs.Arcs.{arc_at, room_at, IsNetwork}
use Rattle.flow_planner.specs.Network.{first_arc, Carries, CarriesJob, CarriesJobs, shown}

-- charges that are fair at a vertex, and pass nothing but to its parents; an amount that isn't there is 0
pub record IsFlowing (graph : List Vertex) (charges : Charges) (i : ℕ) : Type 0 where
  pub fair : IsFair graph charges i
  pub passed : sum (passes charges i) ≡ sum_below (length (vertex graph i).parents) (slice_index (passes charges i))

abbrev pub AreFlowing : List Vertex → Charges → Type 0
AreFlowing graph charges = EachIndex graph (IsFlowing graph charges)

-- two nodes for each job, a source and a sink
pub record IsFlowNetwork (jobs : ℕ) (network : Network) : Type 0 where
  pub good : IsNetwork network
  pub nodes : vec_len network.last ≡ 2 * jobs + 2
  pub source : network.source ≡ 2 * jobs
  pub sink : network.sink ≡ 2 * jobs + 1

-- two more arcs: one that carries an amount, and its reverse
pub record IsLaid (before after : List Arc) (from to capacity amount : ℕ) : Type 0 where
  pub count : length after ≡ length before + 2
  pub kept : (a : ℕ) → a < length before → arc_at after a ≡ arc_at before a
  pub carries : Carries after (length before) from to capacity amount

-- a network with the arcs of the first so many jobs
pub record IsBuilt (graph : List Vertex) (charges : Charges) (jobs : ℕ) (network : Network) : Type 0 where
  pub nodes : IsFlowNetwork (length graph) network
  pub carries : CarriesJobs graph charges network.arcs.items jobs

-- the arcs of the jobs below one, and its own with its first so many parents
pub record HasPart (graph : List Vertex) (charges : Charges) (arcs : List Arc) (job parents : ℕ) : Type 0 where
  pub count : length arcs ≡ first_arc graph job + 6 + 2 * parents
  pub each : (i : ℕ) → i < job → CarriesJob graph charges arcs i (length (vertex graph i).parents)
  pub last : CarriesJob graph charges arcs job parents

-- a network with such arcs
pub record IsPartBuilt (graph : List Vertex) (charges : Charges) (job parents : ℕ) (network : Network) : Type 0 where
  pub nodes : IsFlowNetwork (length graph) network
  pub part : HasPart graph charges network.arcs.items job parents

-- what flows along the arcs this far behind the first one of each of the first so many jobs
pub record AreFlows (graph : List Vertex) (arcs : List Arc) (place : ℕ) (amounts : List ℕ) (jobs : ℕ) : Type 0 where
  pub count : length amounts ≡ jobs
  pub each : (i : ℕ) → i < jobs → slice_index amounts i ≡ room_at arcs (first_arc graph i + place + 1)

-- what flows along so many arcs from this one on
pub record IsRow (arcs : List Arc) (first : ℕ) (row : List ℕ) (parents : ℕ) : Type 0 where
  pub count : length row ≡ parents
  pub each : (k : ℕ) → k < parents → slice_index row k ≡ room_at arcs (first + 2 * k + 1)

-- one such row for each of the first so many jobs
pub record AreRows (graph : List Vertex) (arcs : List Arc) (rows : List (List ℕ)) (jobs : ℕ) : Type 0 where
  pub count : length rows ≡ jobs
  pub each : (i : ℕ) → i < jobs → IsRow arcs (first_arc graph i + 6) (slice_index_or rows i []) (length (vertex graph i).parents)

-- the first so many marks are what the levels of the nodes of so many jobs show
pub record AreShown (jobs : ℕ) (levels : List ℕ) (marks : List Mark) (n : ℕ) : Type 0 where
  pub count : length marks ≡ n
  pub each : (i : ℕ) → i < n → mark marks i ≡ shown (slice_index levels i) (slice_index levels (jobs + i))
