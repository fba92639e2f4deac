-- Certificates: a valid plan beside fair charges that are worth what it costs.
use Rattle.std.specs.Prelude.{◌≡◌, List}
use Rattle.plan_checker.specs.declared.vertex.Vertex.{Vertex}
use Rattle.plan_checker.specs.declared.plan.Mark.{Mark}
use Rattle.plan_checker.specs.declared.charges.Charges.{Charges}
use Rattle.plan_checker.specs.Plan.{cost, IsValid}
use Rattle.plan_checker.specs.Charges.{value, AreFair}

-- a valid plan, and fair charges whose value is its cost
pub record IsCertificate (graph : List Vertex) (marks : List Mark) (charges : Charges) : Type 0 where
  pub valid : IsValid graph marks
  pub fair : AreFair graph charges
  pub balanced : value charges ≡ cost graph marks
