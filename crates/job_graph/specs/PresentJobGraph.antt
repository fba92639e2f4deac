-- Present job graph: the known jobs as a planner takes them. A vertex is a job, with what it costs to load and to compute; its parents are
-- the jobs that made a File or Directory in its inputs.
use Rattle.std.specs.Prelude.{◌≤◌, ◌||◌, List, [], Bool, is_some, map, not}
use Rattle.std.specs.List.{zip}
use Rattle.std.specs.Option.{ForSome}
use Rattle.plan_checker.specs.declared.graph.TheConstants.{MOST_COST}
use Rattle.plan_checker.specs.declared.vertex.Vertex.{Vertex}
use Rattle.job_graph.specs.Words.{Fields, JobPlace}
use Rattle.job_graph.specs.Jobs.{Job}
use Rattle.job_graph.specs.Made.{any_made}
use Rattle.job_graph.specs.Unfold.{Known, Resolved, known_from, outputs_at}
use Rattle.job_graph.specs.declared.costs.Costs.{Costs}

-- the costs of a job are within the limits of graphs
pub record AreWithin (costs : Costs) : Type 0 where
  pub load : ForSome costs.load (λ cost. cost ≤ MOST_COST)
  pub compute : (1 ≤ costs.compute) × (costs.compute ≤ MOST_COST)

-- whether the job at a place is needed: it is not resolved, or a File or Directory that it made stands in a known output of the root
-- process
abbrev pub is_needed : List Resolved → Fields → JobPlace → Bool
is_needed learned outs place = not (is_some (outputs_at learned place)) || any_made place outs

-- the same of each of these jobs
abbrev pub needed_among : List Resolved → Fields → List Job → List Bool
needed_among learned outs jobs = map (λ job. is_needed learned outs job.place) jobs

-- the vertex of a known job with its costs
abbrev pub vertex_of : List Resolved → Fields → Known × Costs → Vertex
vertex_of learned outs entry = record {
  load = entry.1.load;
  compute = entry.1.compute;
  parents = entry.0.parents;
  needed = is_needed learned outs entry.0.job.place;
}

-- the graph of these jobs in the order in which they came to be known, each with its costs, where these places are resolved and the root
-- process has these known outputs
abbrev pub present_job_graph : List Resolved → List Job → Fields → List Costs → List Vertex
present_job_graph learned jobs outs costs = map (vertex_of learned outs) (zip (known_from [] jobs) costs)
