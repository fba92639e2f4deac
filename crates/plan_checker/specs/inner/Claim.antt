-- What the check of a certificate has found so far: which rules are kept, and where one is broken.
use Rattle.std.specs.Prelude.{◌≡◌, ◌≢◌, ℕ, All, slice_index, ◌+◌, ◌<◌, List, length, Option, None, Some, Result, Ok, Err}
use Rattle.plan_checker.specs.declared.vertex.Vertex.{Vertex}
use Rattle.plan_checker.specs.declared.plan.Mark.{Mark}
use Rattle.plan_checker.specs.declared.charges.Charges.{Charges}
use Rattle.plan_checker.specs.declared.broken.Broken.{Broken}
use Rattle.plan_checker.specs.declared.claim.Claim.{Claim}
use Rattle.plan_checker.specs.declared.claim.Rule.{Rule}
use Rattle.plan_checker.specs.declared.claim.Rule.TheVariants.{Needed, Loadable, Parents, Entering, Loading, Paying, ComingIn, GoingOut}
use Rattle.plan_checker.specs.declared.broken.Broken.TheVariants.{ParentPruned}
use Rattle.plan_checker.specs.declared.plan.Mark.TheVariants.{Prune}
use Rattle.plan_checker.specs.Plan.{mark, cost}
use Rattle.plan_checker.specs.Charges.{IsCounted}
use Rattle.plan_checker.specs.Certificate.{IsCertificate}
use Rattle.plan_checker.specs.Broken.{rule, place, parent_place, Breaks, IsFirstBroken}

abbrev pub graph_of : Claim → List Vertex
graph_of claim = claim.graph.now

abbrev pub marks_of : Claim → List Mark
marks_of claim = claim.plan.now.marks

abbrev pub charges_of : Claim → Charges
charges_of claim = claim.charges.now

-- what is claimed breaks this rule
abbrev pub IsBroken : Claim → Broken → Type 0
IsBroken claim broken = Breaks (graph_of claim) (marks_of claim) (charges_of claim) broken

abbrev pub IsFirstBrokenOf : Claim → Broken → Type 0
IsFirstBrokenOf claim broken = IsFirstBroken (graph_of claim) (marks_of claim) (charges_of claim) broken

-- one mark and one entry of each kind for each vertex, one pass for each parent
pub record IsSized (claim : Claim) : Type 0 where
  pub marks_counted : length (marks_of claim) ≡ length (graph_of claim)
  pub charges_counted : IsCounted (graph_of claim) (charges_of claim)

-- a rule's place in the order of rules
abbrev pub number : Rule → ℕ
number Needed = 2
number Loadable = 3
number Parents = 4
number Entering = 5
number Loading = 6
number Paying = 7
number ComingIn = 8
number GoingOut = 9

-- the sizes are right, and none of the first n rules is broken
pub record KeepsRules (claim : Claim) (n : ℕ) : Type 0 where
  pub sized : IsSized claim
  pub kept : (broken : Broken) → rule broken < n → ¬ IsBroken claim broken

-- rule n was looked at: it is kept too, or this is what is first broken
abbrev pub Settles : Claim → ℕ → Result (Unit {0}) Broken → Type 0
Settles claim n (Ok done) = KeepsRules claim (n + 1)
Settles claim n (Err broken) = IsFirstBrokenOf claim broken

-- what breaks rule n first at vertex i
pub record IsFirstAt (claim : Claim) (n i : ℕ) (broken : Broken) : Type 0 where
  pub of_rule : rule broken ≡ n
  pub at_vertex : place broken ≡ i
  pub is_broken : IsBroken claim broken
  pub first_parent : (other : Broken) → rule other ≡ n → place other ≡ i → IsBroken claim other → ¬ (parent_place other < parent_place broken)

-- vertex i was looked at: it keeps rule n, or this is what first breaks it there
abbrev pub SettlesAt : Claim → ℕ → ℕ → Option Broken → Type 0
SettlesAt claim n i None = (broken : Broken) → rule broken ≡ n → place broken ≡ i → ¬ IsBroken claim broken
SettlesAt claim n i (Some broken) = IsFirstAt claim n i broken

-- the parents of vertex i were looked at: none is pruned where i is computed, or this is the first
abbrev pub SettlesParents : Claim → ℕ → Option ℕ → Type 0
SettlesParents claim i None = (parent : ℕ) → ¬ IsBroken claim (ParentPruned i parent)
SettlesParents claim i (Some parent) =
    IsBroken claim (ParentPruned i parent) × ((other : ℕ) → IsBroken claim (ParentPruned i other) → ¬ (other < parent))

-- none of these vertices is pruned, or this is the first that is
abbrev pub IsFirstPruned : Claim → List ℕ → Option ℕ → Type 0
IsFirstPruned claim vertices None = All (λ i. mark (marks_of claim) i ≢ Prune) vertices
IsFirstPruned claim vertices (Some i) =
    (k : ℕ) × (k < length vertices) × (slice_index vertices k ≡ i) × (mark (marks_of claim) i ≡ Prune) × ((j : ℕ) → j < k → mark (marks_of claim) (slice_index vertices j) ≢ Prune)

-- the whole claim was looked at
abbrev pub Decides : Claim → Result ℕ Broken → Type 0
Decides claim (Ok total) =
    IsCertificate (graph_of claim) (marks_of claim) (charges_of claim) × (total ≡ cost (graph_of claim) (marks_of claim))
Decides claim (Err broken) = IsFirstBrokenOf claim broken
