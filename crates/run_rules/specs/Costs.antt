-- What the known jobs of a run cost, and the graph of them that is planned: what is held is there for nothing; what has an archived row costs
-- as much as fetching its files; to compute a job costs as much as it did when its row was made.
use Rattle.std.specs.Prelude.{ℕ, ◌+◌, ◌/◌, ◌%◌, cond, min, map, List, Option, Some, None, option_map}
use Rattle.std.specs.Option.{option_map_or}
use Rattle.job_graph.specs.declared.costs.Costs.{Costs}
use Rattle.job_graph.specs.Jobs.{Job}
use Rattle.job_graph.specs.PresentJobGraph.{present_job_graph}
use Rattle.job_graph.specs.Words.{JobPlace}
use Rattle.job_reuse.specs.Rows.{bytes_of, held}
use Rattle.job_rows.specs.declared.row.Row.{Row}
use Rattle.plan_checker.specs.declared.graph.TheConstants.{MOST_COST}
use Rattle.plan_checker.specs.declared.vertex.Vertex.{Vertex}
use Rattle.run_rules.specs.declared.setting.Options.{Options}
use Rattle.run_rules.specs.Events.{Event, can_load, is_held, resolved, row_at, unfolding_at}
use Rattle.run_rules.specs.Scene.{Scene}

-- a number over another, rounded up: one more than the quotient where something is left
abbrev pub over : ℕ → ℕ → ℕ
over bytes rate = bytes / rate + min 1 (bytes % rate)

-- the base and the bytes over the rate, rounded up; the whole held to the highest cost
abbrev pub cost_to_load : ℕ → ℕ → ℕ → ℕ
cost_to_load base rate bytes = min (base + over bytes rate) MOST_COST

-- what it costs to fetch the files of a row
abbrev pub cost_to_fetch : Options → Row → ℕ
cost_to_fetch options row = cost_to_load options.base options.rate (bytes_of row.files)

-- what it cost to compute what a row has, or 1000 where there is none
abbrev pub cost_to_compute : Option Row → ℕ
cost_to_compute row = option_map_or (λ r. held r.cost) row 1000

module _ (s : Scene) where
  -- what it costs to load the outputs of the job at a place, where that can be done
  abbrev pub load_at : List Event → JobPlace → Option ℕ
  load_at es place = cond (is_held es place) (Some 0) (cond (can_load s es place) (option_map (cost_to_fetch s.options) (row_at es place)) None)

  abbrev pub costs_at : List Event → Job → Costs
  costs_at es job = record { load = load_at es job.place; compute = cost_to_compute (row_at es job.place) }

  -- the present job graph: the known jobs with their costs, and which of them are needed
  abbrev pub graph_at : List Event → List Vertex
  graph_at es =
      present_job_graph (resolved es) (unfolding_at s es).jobs (unfolding_at s es).outs (map (costs_at es) (unfolding_at s es).jobs)
