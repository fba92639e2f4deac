-- The cheapest plans of a graph, and the Least one among them: what it computes and keeps, each of them does.
use Rattle.std.specs.Prelude.{◌≡◌, ◌≢◌, ◌≤◌, List, EachIndex}
use Rattle.plan_checker.specs.declared.vertex.Vertex.{Vertex}
use Rattle.plan_checker.specs.declared.plan.Mark.{Mark}
use Rattle.plan_checker.specs.declared.plan.Mark.TheVariants.{Compute, Prune}
use Rattle.plan_checker.specs.Plan.{mark, cost, IsValid}

-- a valid plan, and no valid plan costs less
pub record IsCheapest (graph : List Vertex) (marks : List Mark) : Type 0 where
  pub valid : IsValid graph marks
  pub cheapest : (other : List Mark) → IsValid graph other → cost graph marks ≤ cost graph other

-- what the first plan computes the second computes, and what the first doesn't prune the second doesn't prune
pub record DoesNoMore (graph : List Vertex) (marks other : List Mark) : Type 0 where
  pub computes : EachIndex graph (λ i. mark marks i ≡ Compute → mark other i ≡ Compute)
  pub keeps : EachIndex graph (λ i. mark marks i ≢ Prune → mark other i ≢ Prune)

-- the cheapest plan that does no more than any other cheapest plan
pub record IsLeast (graph : List Vertex) (marks : List Mark) : Type 0 where
  pub cheapest : IsCheapest graph marks
  pub least : (other : List Mark) → IsCheapest graph other → DoesNoMore graph marks other
