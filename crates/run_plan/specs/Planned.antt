-- A planned graph.
use Rattle.std.specs.Prelude.{◌≡◌, List}
use Rattle.plan_checker.specs.declared.vertex.Vertex.{Vertex}
use Rattle.plan_checker.specs.Plan.{cost}
use Rattle.plan_checker.specs.Least.{IsLeast}
use Rattle.plan_checker.specs.Certificate.{IsCertificate}
use Rattle.plan_keeper.specs.declared.planned.Planned.{Planned}

-- the Least plan of a graph of these vertices, with charges that certify it and what it costs
pub record IsPlanOf (vertices : List Vertex) (made : Planned) : Type 0 where
  pub its_graph : made.graph ≡ vertices
  pub least : IsLeast vertices made.plan.marks
  pub certified : IsCertificate vertices made.plan.marks made.charges
  pub its_cost : made.cost ≡ cost vertices made.plan.marks
