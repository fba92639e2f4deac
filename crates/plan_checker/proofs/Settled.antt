use Rattle.std.proofs.Common.{◌≡◌, ◌≢◌, ℕ, ◌+◌, ◌^◌, ◌<◌, ◌≤◌, List, length, get_or, replicate, sum, Option, None, Some, IsSome, IsSomeAnd, sym, refl, subst, ⊎_elim, arith}
use Rattle.std.proofs.lemmas.List.{get_or_default, get_or-replicate, length-replicate}
use Rattle.std.proofs.lemmas.Bool.{cases_lt, cases_eq, false_from_ne_true}
use Rattle.plan_checker.specs.declared.vertex.Vertex.{Vertex}
use Rattle.plan_checker.specs.declared.plan.Mark.{Mark}
use Rattle.plan_checker.specs.declared.plan.Mark.TheVariants.{Load, Compute, Prune}
use Rattle.plan_checker.specs.declared.charges.Charges.{Charges}
use Rattle.plan_checker.specs.declared.claim.Claim.{Claim}
use Rattle.plan_checker.specs.declared.broken.Broken.TheVariants.{NeededPruned, NoLoad, ParentPruned, EnterNotNeeded, ThroughOverLoad, PayOverCompute, InNotThrough, ThroughNotOut}
use Rattle.plan_checker.specs.declared.graph.TheConstants.{MOST_VERTICES}
use Rattle.plan_checker.specs.Graph.{vertex, IsGraph}
use Rattle.plan_checker.specs.Plan.{mark, cost_of, IsAllowed, IsValid}
use Rattle.plan_checker.specs.Charges.{received, passes, value, IsFair, AreFair}
use Rattle.plan_checker.specs.inner.Claim.{graph_of, marks_of, charges_of, KeepsRules}
use Rattle.plan_checker.proofs.SumsBelow.{sum_below-le-product}
use Rattle.plan_checker.proofs.Duality.{value-le-cost}

-- a vertex that breaks none of the plan's rules is allowed under its mark
allowed_under : (claim : Claim) → KeepsRules claim 10 → (i : ℕ) → i < length (graph_of claim) → (m : Mark) → mark (marks_of claim) i ≡ m → IsAllowed (marks_of claim) (vertex (graph_of claim) i) m
allowed_under claim settled i h Load is = loadable (vertex (graph_of claim) i).load (λ none. settled.kept (NoLoad i) (omega arith) (h, none, is))
  where
    loadable : (o : Option ℕ) → (o ≡ None → ⊥) → IsSome o
    loadable None never = absurd (never refl)
    loadable (Some x) never = refl
allowed_under claim settled i h Compute is =
    λ k d hk pruned.
    let parent : ℕ = get_or (vertex (graph_of claim) i).parents k d in
    settled.kept (ParentPruned i parent) (omega arith) (h, (k, hk, get_or_default (vertex (graph_of claim) i).parents k parent d hk), is, pruned)
allowed_under claim settled i h Prune is =
    false_from_ne_true (vertex (graph_of claim) i).needed (λ needed. settled.kept (NeededPruned i) (omega arith) (h, needed, is))

pub valid_from_rules : (claim : Claim) → KeepsRules claim 10 → IsValid (graph_of claim) (marks_of claim)
valid_from_rules claim settled = record {
  one_each = settled.sized.marks_counted;
  allowed = λ i h. allowed_under claim settled i h (mark (marks_of claim) i) refl;
}

equal_or_not : (a b : ℕ) → ¬ (a ≢ b) → a ≡ b
equal_or_not a b never = ⊎_elim (λ e. e) (λ ne. absurd (never ne)) (cases_eq a b)

not_above : (a b : ℕ) → ¬ (a < b) → b ≤ a
not_above a b never = ⊎_elim (λ lt. absurd (never lt)) (λ le. le) (cases_lt a b)

-- a vertex that breaks none of the charges' rules is charged fairly
fair_at : (claim : Claim) → KeepsRules claim 10 → (i : ℕ) → i < length (graph_of claim) → IsFair (graph_of claim) (charges_of claim) i
fair_at claim settled i h = record {
  entering = λ spare. equal_or_not (get_or (charges_of claim).enter i 0) 0 (λ ne. settled.kept (EnterNotNeeded i) (omega arith) (h, spare, ne));
  loading = λ load is. not_above load (get_or (charges_of claim).through i 0) (λ lt. settled.kept (ThroughOverLoad i) (omega arith) (h, over_load (vertex (graph_of claim) i).load load is lt));
  paying = not_above (vertex (graph_of claim) i).compute (get_or (charges_of claim).pay i 0) (λ lt. settled.kept (PayOverCompute i) (omega arith) (h, lt));
  coming_in = equal_or_not (get_or (charges_of claim).enter i 0 + received (graph_of claim) (charges_of claim) i) (get_or (charges_of claim).through i 0) (λ ne. settled.kept (InNotThrough i) (omega arith) (h, ne));
  going_out = equal_or_not (get_or (charges_of claim).through i 0) (get_or (charges_of claim).pay i 0 + sum (passes (charges_of claim) i)) (λ ne. settled.kept (ThroughNotOut i) (omega arith) (h, ne));
}
  where
    over_load : (o : Option ℕ) (load : ℕ) → o ≡ Some load → load < get_or (charges_of claim).through i 0 → IsSomeAnd o (λ load. load < get_or (charges_of claim).through i 0)
    over_load o load is lt = let P : Option ℕ → Type 0 = λ o. IsSomeAnd o (λ load. load < get_or (charges_of claim).through i 0) in subst P (sym is) lt

pub fair_from_rules : (claim : Claim) → KeepsRules claim 10 → AreFair (graph_of claim) (charges_of claim)
fair_from_rules claim settled = record {
  counted = settled.sized.charges_counted;
  fair = fair_at claim settled;
}

-- the plan that computes all is valid, and costs no more than the limits allow; so the value of fair charges is small
computed : (graph : List Vertex) (i : ℕ) → i < length graph → mark (replicate (length graph) Compute) i ≡ Compute
computed graph i h = get_or-replicate (length graph) i Compute Prune h

all_computed : (graph : List Vertex) → IsGraph graph → IsValid graph (replicate (length graph) Compute)
all_computed graph good = record {
  one_each = length-replicate (length graph) Compute;
  allowed = λ i h.
      let marks : List Mark = replicate (length graph) Compute in
      let parents_kept : IsAllowed marks (vertex graph i) Compute =
      λ k d hk gone.
      let below = (good i h).below k d hk in
      let there = computed graph (get_or (vertex graph i).parents k d) (omega arith) in
      (cc)
      in
      let P : Mark → Type 0 = IsAllowed marks (vertex graph i) in
      subst P (sym (computed graph i h)) parents_kept;
}

few_vertices : (graph : List Vertex) → IsGraph graph → length graph ≤ MOST_VERTICES
few_vertices graph good = ⊎_elim (λ lt. let few = (good MOST_VERTICES lt).few_vertices in absurd (omega arith)) (λ le. le) (cases_lt MOST_VERTICES (length graph))

pub value_is_small : (graph : List Vertex) (charges : Charges) → IsGraph graph → AreFair graph charges → value charges < 2 ^ 64
value_is_small graph charges good fair =
    let marks : List Mark = replicate (length graph) Compute in
    let few = few_vertices graph good in
    let le = value-le-cost graph charges marks good fair (all_computed graph good) in
    let each : (i : ℕ) → i < length graph → cost_of (vertex graph i) (mark marks i) ≤ 1000000000000 =
    λ i h. rw (computed graph i h) ((good i h).compute_cost.1)
    in
    let most = sum_below-le-product (length graph) 1000000000000 (λ i. cost_of (vertex graph i) (mark marks i)) each in
    omega arith
