-- What it costs to have the outputs of a job, as a run knows it.
use Rattle.std.specs.Prelude.{ℕ, ◌+◌, ◌≤◌, min, Bool, cond, Option, Some, None, option_map}
use Rattle.std.specs.Int.{div_ceil}
use Rattle.std.specs.Option.{option_map_or}
use Rattle.job_graph.specs.declared.costs.Costs.{Costs}
use Rattle.job_reuse.specs.Rows.{bytes_of, held}
use Rattle.job_rows.specs.declared.row.Row.{Row}
use Rattle.plan_checker.specs.declared.graph.TheConstants.{MOST_COST}
use Rattle.run_plan.specs.declared.costs.TheConstants.{UNKNOWN_COST}

-- what any load costs, and how many bytes are loaded for a cost of 1
pub record LoadRates : Type 0 where
  pub base : ℕ
  pub rate : ℕ

pub record AreRates (rates : LoadRates) : Type 0 where
  pub base : rates.base ≤ MOST_COST
  pub least_rate : 1 ≤ rates.rate
  pub rate : rates.rate ≤ MOST_COST

-- the base and the bytes over the rate, rounded up; the whole held to the highest cost
abbrev pub cost_to_load : LoadRates → ℕ → ℕ
cost_to_load rates bytes = min (rates.base + div_ceil bytes rates.rate) MOST_COST

-- the cost of a job's row, held to what a graph takes; that of one that was never seen to run where none was found
abbrev pub cost_to_compute : Option Row → ℕ
cost_to_compute row = option_map_or (λ (r : Row). held r.cost) row UNKNOWN_COST

-- what is held costs nothing more; what its row has is loaded where it can be fetched; nothing else can be loaded
abbrev pub load_cost_of : LoadRates → Bool → Bool → Option Row → Option ℕ
load_cost_of rates is_held archived row =
    cond is_held (Some 0) (cond archived (option_map (λ (r : Row). cost_to_load rates (bytes_of r.files)) row) None)

abbrev pub costs_of : LoadRates → Bool → Bool → Option Row → Costs
costs_of rates is_held archived row = record { load = load_cost_of rates is_held archived row; compute = cost_to_compute row }
