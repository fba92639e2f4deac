-- The rules of a certificate in the order in which they are looked at, and the first one that is broken.
use Rattle.std.specs.Prelude.{◌≡◌, ◌≢◌, ℕ, ◌+◌, ◌<◌, List, length, sum, true, false, None, IsSomeAnd, Contains, slice_index}
use Rattle.std.specs.Prelude.{◌⊎◌}
use Rattle.plan_checker.specs.declared.vertex.Vertex.{Vertex}
use Rattle.plan_checker.specs.declared.plan.Mark.{Mark}
use Rattle.plan_checker.specs.declared.plan.Mark.TheVariants.{Load, Compute, Prune}
use Rattle.plan_checker.specs.declared.charges.Charges.{Charges}
use Rattle.plan_checker.specs.declared.broken.Broken.{Broken}
use Rattle.plan_checker.specs.declared.broken.Broken.TheVariants.{MarkCount, ChargeCount, NeededPruned, NoLoad, ParentPruned, EnterNotNeeded, ThroughOverLoad, PayOverCompute, InNotThrough, ThroughNotOut, Sum}
use Rattle.plan_checker.specs.Graph.{vertex}
use Rattle.plan_checker.specs.Plan.{mark, cost}
use Rattle.plan_checker.specs.Charges.{passes, received, value, IsCounted}

-- the rule is broken, there where the variant says
abbrev pub Breaks : List Vertex → List Mark → Charges → Broken → Type 0
Breaks graph marks charges MarkCount = length marks ≢ length graph
Breaks graph marks charges ChargeCount = ¬ IsCounted graph charges
Breaks graph marks charges (NeededPruned i) =
    (i < length graph) × ((vertex graph i).needed ≡ true) × (mark marks i ≡ Prune)
Breaks graph marks charges (NoLoad i) =
    (i < length graph) × ((vertex graph i).load ≡ None) × (mark marks i ≡ Load)
Breaks graph marks charges (ParentPruned i parent) =
    (i < length graph) × Contains (vertex graph i).parents parent × (mark marks i ≡ Compute) × (mark marks parent ≡ Prune)
Breaks graph marks charges (EnterNotNeeded i) =
    (i < length graph) × ((vertex graph i).needed ≡ false) × (slice_index charges.enter i ≢ 0)
Breaks graph marks charges (ThroughOverLoad i) =
    (i < length graph) × IsSomeAnd (vertex graph i).load (λ load. load < slice_index charges.through i)
Breaks graph marks charges (PayOverCompute i) =
    (i < length graph) × ((vertex graph i).compute < slice_index charges.pay i)
Breaks graph marks charges (InNotThrough i) =
    (i < length graph) × (slice_index charges.enter i + received graph charges i ≢ slice_index charges.through i)
Breaks graph marks charges (ThroughNotOut i) =
    (i < length graph) × (slice_index charges.through i ≢ slice_index charges.pay i + sum (passes charges i))
Breaks graph marks charges (Sum total worth) =
    (total ≡ cost graph marks) × (worth ≡ value charges) × (total ≢ worth)

-- the rules' order
abbrev pub rule : Broken → ℕ
rule MarkCount = 0
rule ChargeCount = 1
rule (NeededPruned i) = 2
rule (NoLoad i) = 3
rule (ParentPruned i parent) = 4
rule (EnterNotNeeded i) = 5
rule (ThroughOverLoad i) = 6
rule (PayOverCompute i) = 7
rule (InNotThrough i) = 8
rule (ThroughNotOut i) = 9
rule (Sum total worth) = 10

-- where the rule is broken: the vertex
abbrev pub place : Broken → ℕ
place (NeededPruned i) = i
place (NoLoad i) = i
place (ParentPruned i parent) = i
place (EnterNotNeeded i) = i
place (ThroughOverLoad i) = i
place (PayOverCompute i) = i
place (InNotThrough i) = i
place (ThroughNotOut i) = i
place _ = 0

-- and, among a vertex's parents, which one
abbrev pub parent_place : Broken → ℕ
parent_place (ParentPruned i parent) = parent
parent_place _ = 0

-- an earlier rule; or the same at a lower vertex; or at the same vertex with a lower parent
abbrev pub ComesBefore : Broken → Broken → Type 0
ComesBefore a b =
    (rule a < rule b)
    ⊎ ((rule a ≡ rule b) × ((place a < place b) ⊎ ((place a ≡ place b) × (parent_place a < parent_place b))))

-- what is broken, and nothing before it is
pub record IsFirstBroken (graph : List Vertex) (marks : List Mark) (charges : Charges) (broken : Broken) : Type 0 where
  pub broken_here : Breaks graph marks charges broken
  pub first : (other : Broken) → Breaks graph marks charges other → ¬ ComesBefore other broken
