-- Graphs in which what is best for each vertex by itself is best for all: their plans are read off.
use Rattle.std.specs.Prelude.{◌≡◌, ℕ, ◌<◌, min, nat_le, cond, Option, Some, None, List, length, map, All, Contains}
use Rattle.plan_checker.specs.declared.vertex.Vertex.{Vertex}
use Rattle.plan_checker.specs.declared.plan.Mark.{Mark}
use Rattle.plan_checker.specs.declared.plan.Mark.TheVariants.{Load, Compute, Prune}
use Rattle.plan_checker.specs.declared.charges.Charges.{Charges}
use Rattle.plan_checker.specs.Graph.{vertex}
use Rattle.plan_checker.specs.Plan.{mark}
use Rattle.plan_keeper.specs.Free.{IsFree}

-- what is done with a job that has to be kept, by itself: it is loaded where that costs no more
abbrev pub kept_alone : Option ℕ → ℕ → Mark
kept_alone None compute = Compute
kept_alone (Some load) compute = cond (nat_le load compute) Load Compute

-- what is done with a job by itself
abbrev pub alone : Vertex → Mark
alone job = cond job.needed (kept_alone job.load job.compute) Prune

-- if it is computed by itself, each of its parents is free
pub record StandsApart (graph : List Vertex) (job : Vertex) : Type 0 where
  pub free_parents : alone job ≡ Compute → All (λ parent. IsFree (vertex graph parent)) job.parents

abbrev pub AreApart : List Vertex → Type 0
AreApart graph = All (StandsApart graph) graph

-- what it costs to keep a job
abbrev pub price : Option ℕ → ℕ → ℕ
price None compute = compute
price (Some load) compute = min load compute

-- what is charged to a job
abbrev pub charge : Vertex → ℕ
charge job = cond job.needed (price job.load job.compute) 0

-- nothing, for each parent
abbrev pub no_passes : Vertex → List ℕ
no_passes job = map (λ parent. 0) job.parents

-- the first n vertices are marked: the parents of those that are computed are loaded, and else each is marked as by itself
pub record AreMarkedApart (graph : List Vertex) (marks : List Mark) (n : ℕ) : Type 0 where
  pub count : length marks ≡ n
  pub loaded : (j : ℕ) → j < n → alone (vertex graph j) ≡ Compute → (i : ℕ) → Contains (vertex graph j).parents i → mark marks i ≡ Load
  pub others : (i : ℕ) → i < n → ((j : ℕ) → j < n → alone (vertex graph j) ≡ Compute → ¬ Contains (vertex graph j).parents i) → mark marks i ≡ alone (vertex graph i)

-- each vertex is charged by itself, and passes nothing on
pub record AreChargesApart (graph : List Vertex) (charges : Charges) : Type 0 where
  pub enter : charges.enter ≡ map charge graph
  pub through : charges.through ≡ map charge graph
  pub pay : charges.pay ≡ map charge graph
  pub passing : charges.pass ≡ map no_passes graph
