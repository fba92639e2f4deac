-- What the graph of the plan in force has of the jobs that were not touched since it was made.
use Rattle.std.specs.Prelude.{◌≡◌, ◌<◌, ◌&&◌, ℕ, Bool, not, List, Option, length}
use Rattle.job_graph.specs.declared.costs.Costs.{Costs}
use Rattle.job_rows.specs.declared.row.Row.{Row}
use Rattle.plan_checker.specs.Graph.{vertex}
use Rattle.plan_keeper.specs.declared.planned.Planned.{Planned}
use Rattle.run_plan.specs.Costs.{LoadRates, costs_of}
use Rattle.run_plan.specs.Touched.{graph_in}
use Rattle.run_core.specs.declared.job_states.JobState.{JobState}
use Rattle.run_core.specs.inner.Archives.{archived_in}
use Rattle.run_core.specs.inner.FoundRows.{row_in}
use Rattle.run_core.specs.inner.JobStates.{waits_in}
use Rattle.run_core.specs.inner.Touched.{IsTouched}

-- what the job of a number costs, by what has become of the jobs, the archives that are lost and the rows that were found
abbrev pub costs_by : LoadRates → Bool → List JobState → List (List ℕ) → List (Option Row) → ℕ → Costs
costs_by rates keep jobs lost rows n = costs_of rates (not (waits_in jobs n)) (keep && archived_in lost (row_in rows n)) (row_in rows n)

-- each job of the graph that was not touched costs there what it costs now
abbrev pub Fits : LoadRates → Bool → List JobState → List (List ℕ) → List (Option Row) → Option (List ℕ) → Option Planned → Type 0
Fits rates keep jobs lost rows touched planned =
    (n : ℕ) → n < length (graph_in planned) → ¬ IsTouched touched n →
    ((vertex (graph_in planned) n).load ≡ (costs_by rates keep jobs lost rows n).load) × ((vertex (graph_in planned) n).compute ≡ (costs_by rates keep jobs lost rows n).compute)
