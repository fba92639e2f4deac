-- The plan in force: a mark for each known job, made anew at each planning point. It is the cheapest way to get from what is held, archived and
-- to be computed to what is still needed (Helix, Xin et al., 2018).
use Rattle.std.specs.Prelude.{ℕ, ◌+◌, ◌&&◌, Bool, true, false, not, cond, List, [], ◌∷◌, is_none}
use Rattle.std.specs.List.{list_any}
use Rattle.plan_checker.specs.Least.{IsLeast}
use Rattle.plan_checker.specs.Plan.{cost, mark}
use Rattle.plan_checker.specs.declared.plan.Mark.{Mark}
use Rattle.plan_checker.specs.declared.vertex.Vertex.{Vertex}
use Rattle.job_graph.specs.Jobs.{Job}
use Rattle.job_graph.specs.Unfold.{is_at}
use Rattle.job_graph.specs.Words.{JobPlace}
use Rattle.run_rules.specs.declared.outcome.PlanNote.{PlanNote}
use Rattle.run_rules.specs.Costs.{graph_at}
use Rattle.run_rules.specs.Events.{Event, Work, nothing_due, Progress, are_looked_up, is_at_hand, unfolding_at}
use Rattle.run_rules.specs.End.{is_lost_collect, settled}
use Rattle.run_rules.specs.Scene.{Scene}

abbrev pub number_from : ℕ → JobPlace → List Job → ℕ
number_from n place [] = n
number_from n place (job ∷ jobs) = cond (is_at place job) n (number_from (n + 1) place jobs)

-- the number of the job at a place
abbrev pub number_of : JobPlace → List Job → ℕ
number_of place jobs = number_from 0 place jobs

abbrev pub is_idle : Work → Bool
is_idle nothing_due = true
is_idle _ = false

-- what was planned so far
pub record PlansSoFar : Type 0 where
  -- the graph that was planned last
  pub graph : List Vertex
  -- the marks of its plan, which is in force
  pub marks : List Mark
  -- what each plan costs, and how many answers came before it
  pub notes : List PlanNote

abbrev pub no_plans : PlansSoFar
no_plans = record { graph = []; marks = []; notes = [] }

-- the note of a plan that is made after so many answers
abbrev pub plan_note : ℕ → List Vertex → List Mark → PlanNote
plan_note after graph marks = record { after = after; cost = cost graph marks }

module _ (s : Scene) where
  -- nothing is due, no collect has failed, the end isn't settled, no row is looked for any more, and some known job is not at hand
  abbrev pub is_planning : Progress → Bool
  is_planning f = is_idle f.work && not (list_any is_lost_collect f.events) && is_none (settled s f.events)
      && are_looked_up s f.events && list_any (λ job. not (is_at_hand f.events job.place)) (unfolding_at s f.events).jobs

  abbrev pub mark_at : List Mark → List Event → JobPlace → Mark
  mark_at marks es place = mark marks (number_of place (unfolding_at s es).jobs)

  -- the plan that a run has in force from a planning point on: the Least one of the present job graph
  abbrev pub InForce : Progress → List Mark → Type 0
  InForce f marks = IsLeast (graph_at s f.events) marks
