-- Which of the known jobs have ended, as flags beside them.
use Rattle.std.specs.Prelude.{◌&&◌, ◌||◌, not, Bool, List, is_some, map}
use Rattle.plan_checker.specs.declared.vertex.Vertex.{Vertex}
use Rattle.job_graph.specs.Words.{Fields, JobPlace, is_same_place}
use Rattle.job_graph.specs.Beside.{is_beside}
use Rattle.job_graph.specs.Made.{any_made}
use Rattle.job_graph.specs.Unfold.{Resolved, outputs_at}
use Rattle.job_graph.specs.declared.costs.Costs.{Costs}
use Rattle.job_graph.specs.declared.growth.KnownJob.{KnownJob}

-- whether the outputs of a known job were learned
abbrev pub has_ended : List Resolved → KnownJob → Bool
has_ended learned known = is_some (outputs_at learned known.job.place)

-- the same of each of them
abbrev pub ended_of : List Resolved → List KnownJob → List Bool
ended_of learned known = map (has_ended learned) known

-- a job's flag once a place is learned: it had ended, or is at this place
abbrev pub ended_after : JobPlace → Bool × KnownJob → Bool
ended_after place entry = entry.0 || is_same_place entry.1.job.place place

-- whether a known job is open beside a place, by its flag
abbrev pub open_by : JobPlace → Bool × KnownJob → Bool
open_by place entry = not entry.0 && is_beside place entry.1.job.place

-- whether a known job is needed, by its flag, where the process has these known outputs
abbrev pub needed_by : Fields → Bool × KnownJob → Bool
needed_by outs entry = not entry.0 || any_made entry.1.job.place outs

-- the vertex of a known job with its costs, by a flag that says whether it is needed
abbrev pub vertex_by : Bool × (KnownJob × Costs) → Vertex
vertex_by entry = record {
  load = entry.1.1.load;
  compute = entry.1.1.compute;
  parents = entry.1.0.parents;
  needed = entry.0;
}
