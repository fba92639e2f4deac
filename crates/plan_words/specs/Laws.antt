-- What holds of all plans, and makes the reasons right; each law is the contract of a function in src/laws.rt.
use Rattle.std.specs.Prelude.{◌≡◌, ◌≢◌, ℕ, ◌<◌, List, All, Some, length}
use Rattle.plan_checker.specs.declared.vertex.Vertex.{Vertex}
use Rattle.plan_checker.specs.declared.plan.Mark.{Mark}
use Rattle.plan_checker.specs.declared.plan.Mark.TheVariants.{Load, Compute, Prune}
use Rattle.plan_checker.specs.Graph.{vertex}
use Rattle.plan_checker.specs.Plan.{mark, IsValid}
use Rattle.plan_checker.specs.Least.{IsCheapest, IsLeast}
use Rattle.plan_words.specs.Readers.{readers}

-- no job that is computed reads what a valid plan does without
abbrev pub NoComputedJobReadsPruned : Type 0
NoComputedJobReadsPruned =
    (graph : List Vertex) (marks : List Mark) →
    IsValid graph marks → (i : ℕ) → mark marks i ≡ Prune → readers graph marks Compute i ≡ 0

-- what a Least plan computes costs less so than loaded
abbrev pub ComputedCostLess : Type 0
ComputedCostLess =
    (graph : List Vertex) (marks : List Mark) →
    IsLeast graph marks → (i load : ℕ) → i < length graph → mark marks i ≡ Compute → (vertex graph i).load ≡ Some load → (vertex graph i).compute < load

-- what a cheapest plan loads though to compute it costs less reads something that the plan does without
abbrev pub DearLoadsSpareParents : Type 0
DearLoadsSpareParents =
    (graph : List Vertex) (marks : List Mark) →
    IsCheapest graph marks → (i load : ℕ) → i < length graph → mark marks i ≡ Load → (vertex graph i).load ≡ Some load → (vertex graph i).compute < load → ¬ All (λ parent. mark marks parent ≢ Prune) (vertex graph i).parents
