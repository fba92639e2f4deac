-- The present job graph of a run is a graph where nothing is settled: the known jobs are within the limits, and so are their costs.
use Rattle.std.specs.Prelude.{◌≤◌}
use Rattle.std.proofs.Common.{◌≡◌, ◌∙◌, ℕ, Bool, true, false, cond, List, All, get_or, length, map, Option, Some, None, option_map, refl, sym, ap, subst, arith}
use Rattle.std.proofs.lemmas.List.{length-map}
use Rattle.std.proofs.lemmas.List.Elements.{All-map}
use Rattle.plan_checker.specs.declared.graph.TheConstants.{MOST_COST}
use Rattle.plan_checker.specs.Graph.{IsGraph}
use Rattle.job_graph.specs.declared.costs.Costs.{Costs}
use Rattle.job_graph.specs.Jobs.{Job, Walker}
use Rattle.job_graph.specs.PresentJobGraph.{AreWithin, present_job_graph}
use Rattle.job_graph.specs.Unfold.{Fault, fault_at, too_many_jobs, Resolved, Unfolded, nothing_known, unfolded}
use Rattle.job_graph.specs.Words.{Fields}
use Rattle.job_rows.specs.declared.row.Row.{Row}
use Rattle.run_rules.specs.declared.setting.Options.{Options}
use Rattle.run_rules.specs.Costs.{cost_to_compute, cost_to_fetch, costs_at, graph_at}
use Rattle.run_rules.specs.End.{fault_end}
use Rattle.run_rules.specs.Events.{Event, are_measured, can_load, is_held, measures, resolved, row_at, unfolding_at}
use Rattle.run_rules.specs.Scene.{Scene}
use Rattle.run_rules.proofs.Staying.{unfolding_if}
use Rattle.run_rules.proofs.events.Grows.{AreGraphs}
use Rattle.run_rules.proofs.events.Settled.{no_fault_unsettled}

-- that known jobs with costs within the limits make a graph, where no equation fails and they are not too many
abbrev pub MakeGraphs : Type 0
MakeGraphs =
    (walks : Walker) (learned : List Resolved) (outs : Fields) (costs : List Costs) → (unfolded walks learned).fault ≡ None → length costs ≡ length (unfolded walks learned).jobs →
    All AreWithin costs → IsGraph (present_job_graph learned (unfolded walks learned).jobs outs costs)

load_few : (options : Options) (held can : Bool) (row : Option Row) (cost : ℕ) → cond held (Some 0) (cond can (option_map (cost_to_fetch options) row) None) ≡ Some cost → cost ≤ MOST_COST
load_few options true can row cost is = let same : 0 ≡ cost = cc in omega (arith, same)
load_few options false true (Some row) cost is = let same : cost_to_fetch options row ≡ cost = cc in omega (arith, same)
load_few options false true None cost is = absurd cc
load_few options false false row cost is = absurd cc

compute_few : (row : Option Row) → (1 ≤ cost_to_compute row) × (cost_to_compute row ≤ MOST_COST)
compute_few None = (omega arith, omega arith)
compute_few (Some row) = (omega arith, omega arith)

no_fault_there : (fault : Option Fault) → fault_end fault ≡ None → fault ≡ None
no_fault_there None none = refl
no_fault_there (Some (fault_at place cause)) none = absurd cc
no_fault_there (Some too_many_jobs) none = absurd cc

module _ (s : Scene) where
  within_at : (es : List Event) (job : Job) → AreWithin (costs_at s es job)
  within_at es job = record {
    load = λ cost is. load_few s.options (is_held es job.place) (can_load s es job.place) (row_at es job.place) cost is;
    compute = compute_few (row_at es job.place);
  }

  all_within : (es : List Event) (jobs : List Job) → All AreWithin (map (costs_at s es) jobs)
  all_within es jobs = All-map AreWithin (costs_at s es) jobs (λ k d below. within_at es (get_or jobs k d))

  pub are_graphs : MakeGraphs → AreGraphs s
  are_graphs make es still = by (are_measured s es) refl
    where
      by : (measured : Bool) → are_measured s es ≡ measured → IsGraph (graph_at s es)
      by true all =
          let known_so : unfolding_at s es ≡ unfolded (s.walker (measures es)) (resolved es) = unfolding_if s es all in
          let none : (unfolded (s.walker (measures es)) (resolved es)).fault ≡ None =
          sym (ap (λ (u : Unfolded). u.fault) known_so) ∙ no_fault_there (unfolding_at s es).fault (no_fault_unsettled s es still) in
          subst (λ (u : Unfolded). IsGraph (present_job_graph (resolved es) u.jobs u.outs (map (costs_at s es) u.jobs))) (sym known_so)
          (make (s.walker (measures es)) (resolved es) (unfolded (s.walker (measures es)) (resolved es)).outs
          (map (costs_at s es) (unfolded (s.walker (measures es)) (resolved es)).jobs) none
          (length-map (unfolded (s.walker (measures es)) (resolved es)).jobs (costs_at s es))
          (all_within es (unfolded (s.walker (measures es)) (resolved es)).jobs))
      by false none =
          subst (λ (u : Unfolded). IsGraph (present_job_graph (resolved es) u.jobs u.outs (map (costs_at s es) u.jobs)))
          (sym (ap (λ b. cond b (unfolded (s.walker (measures es)) (resolved es)) nothing_known) none)) (λ i below. absurd (omega (arith, below)))
