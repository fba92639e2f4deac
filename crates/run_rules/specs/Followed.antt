-- That a run follows cheapest plans: at each planning point, whatever came later.
use Rattle.std.specs.Prelude.{◌≡◌, true, List, length, Contains}
use Rattle.plan_checker.specs.Least.{IsCheapest}
use Rattle.run_rules.specs.declared.outcome.PlanNote.{PlanNote}
use Rattle.run_rules.specs.declared.request.Pair.{Pair}
use Rattle.run_rules.specs.declared.setting.Setting.{Setting}
use Rattle.run_rules.specs.Costs.{graph_at}
use Rattle.run_rules.specs.Events.{Progress}
use Rattle.run_rules.specs.Plans.{PlansSoFar, is_planning, plan_note}
use Rattle.run_rules.specs.Run.{IsRunSoFar}
use Rattle.run_rules.specs.Scene.{scene_of}

-- the first pairs of a run that made these plans are a run so far; and where they end at a planning point, the plan that is followed from there on obeys the
-- rules of plans, no plan for the present job graph costs less, and its cost is noted
pub record FollowsCheapest (setting : Setting) (front : List Pair) (notes : List PlanNote) : Type 0 where
  pub happened : Progress
  pub plans : PlansSoFar
  pub so_far : IsRunSoFar setting front happened plans
  pub cheapest : is_planning (scene_of setting) happened ≡ true → IsCheapest (graph_at (scene_of setting) happened.events) plans.marks
  pub noted : is_planning (scene_of setting) happened ≡ true → Contains notes (plan_note (length front) (graph_at (scene_of setting) happened.events) plans.marks)
