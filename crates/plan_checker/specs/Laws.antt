-- What holds of all graphs, plans, charges and texts; each law is the contract of a function in src/laws.rt.
use Rattle.std.specs.Prelude.{◌≡◌, ℕ, ◌^◌, ◌≤◌, List}
use Rattle.plan_checker.specs.declared.vertex.Vertex.{Vertex}
use Rattle.plan_checker.specs.declared.plan.Mark.{Mark}
use Rattle.plan_checker.specs.declared.charges.Charges.{Charges}
use Rattle.plan_checker.specs.declared.broken.Broken.{Broken}
use Rattle.plan_checker.specs.declared.graph.TheConstants.{MOST_VERTICES, MOST_ENTRIES, MOST_COST}
use Rattle.plan_checker.specs.Graph.{IsGraph}
use Rattle.plan_checker.specs.Plan.{cost, IsValid}
use Rattle.plan_checker.specs.Least.{IsCheapest, IsLeast}
use Rattle.plan_checker.specs.Charges.{value, AreFair}
use Rattle.plan_checker.specs.Certificate.{IsCertificate}
use Rattle.plan_checker.specs.Broken.{Breaks}
use Rattle.plan_checker.specs.Format.{IsTextOf, IsFirstBad}

-- weak duality: fair charges are worth no more than any valid plan costs
abbrev pub ChargesBoundCosts : Type 0
ChargesBoundCosts =
    (graph : List Vertex) (charges : Charges) (marks : List Mark) →
    IsGraph graph → AreFair graph charges → IsValid graph marks → value charges ≤ cost graph marks

-- a certificate's plan is a cheapest one
abbrev pub CertificatesAreCheapest : Type 0
CertificatesAreCheapest =
    (graph : List Vertex) (marks : List Mark) (charges : Charges) →
    IsGraph graph → IsCertificate graph marks charges → IsCheapest graph marks

-- a graph has no two Least plans
abbrev pub LeastIsOne : Type 0
LeastIsOne =
    (graph : List Vertex) (marks other : List Mark) → IsLeast graph marks → IsLeast graph other → marks ≡ other

-- a Least plan of a graph
pub record HasLeast (graph : List Vertex) : Type 0 where
  pub marks : List Mark
  pub least : IsLeast graph marks

-- each graph has a Least plan
abbrev pub EachHasLeast : Type 0
EachHasLeast = (graph : List Vertex) → IsGraph graph → HasLeast graph

-- a certificate breaks no rule
abbrev pub CertificatesBreakNothing : Type 0
CertificatesBreakNothing =
    (graph : List Vertex) (marks : List Mark) (charges : Charges) →
    IsCertificate graph marks charges → (broken : Broken) → ¬ Breaks graph marks charges broken

-- a text is that of one certificate alone, and then it has no bad line: what is written is read back
pub record TextsTellCertificates : Type 0 where
  pub one :
      (text : List ℕ) (graph other : List Vertex) (marks others : List Mark) (charges more : Charges) →
      IsTextOf text graph marks charges → IsTextOf text other others more →
      (graph ≡ other) × (marks ≡ others) × (charges ≡ more)
  pub good :
      (text : List ℕ) (graph : List Vertex) (marks : List Mark) (charges : Charges) →
      IsTextOf text graph marks charges → (number : ℕ) → ¬ IsFirstBad text number

-- a text has at most one first bad line
abbrev pub OneBadLineIsFirst : Type 0
OneBadLineIsFirst = (text : List ℕ) (number other : ℕ) → IsFirstBad text number → IsFirstBad text other → number ≡ other

-- the limits of a graph, as numbers (own)
abbrev pub AreLimited : Type 0
AreLimited = (MOST_VERTICES ≡ 16384) × (MOST_ENTRIES ≡ 262144) × (MOST_COST ≡ 10 ^ 12)
