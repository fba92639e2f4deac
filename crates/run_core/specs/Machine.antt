-- A machine as its callers see it.
use Rattle.std.specs.Prelude.{ℕ, List, Option, Result}
use Rattle.plan_checker.specs.declared.charges.Charges.{Charges}
use Rattle.plan_checker.specs.declared.plan.Mark.{Mark}
use Rattle.plan_checker.specs.declared.plan.Plan.{Plan}
use Rattle.plan_checker.specs.declared.vertex.Vertex.{Vertex}
use Rattle.run_rules.specs.declared.outcome.Outcome.{Outcome}
use Rattle.run_rules.specs.declared.outcome.RunFault.{RunFault}
use Rattle.run_rules.specs.declared.request.Pair.{Pair}
use Rattle.run_rules.specs.declared.request.Request.{Request}
use Rattle.run_rules.specs.declared.setting.Setting.{Setting}

-- how far it is: it goes on with its run, or it only waits for the ends of children, since memory ran out, or it has ended so
pub data Mode : Type 0 where
  is_going : Mode
  is_draining : Mode
  is_over : Result Outcome RunFault → Mode

-- a graph with the marks of its plan, and charges
pub record PlanNow : Type 0 where
  pub graph : List Vertex
  pub marks : List Mark
  pub charges : Charges

abbrev pub plan_of : List Vertex → Plan → Charges → PlanNow
plan_of graph plan charges = record { graph = graph; marks = plan.marks; charges = charges }

-- what its run is of, what it asked and was answered, what it asks now, the tickets of the children in flight while it asks
-- something, the plan of the last planning point, how many answers it takes at most, and how far it is
pub record Machine : Type 0 where
  pub setting : Setting
  pub transcript : List Pair
  pub asks : Request
  pub flying : List ℕ
  pub plan : Option PlanNow
  pub steps_left : ℕ
  pub mode : Mode
