-- How much can flow: through a vertex no more than the vertices at and below it pay, which is less than what has no bound.
use Rattle.std.proofs.Common.{◌≡◌, ℕ, zero, suc, ◌+◌, ◌*◌, ◌-◌, ◌<◌, ◌≤◌, List, Bool, true, false, cond, ltb, length, get_or, ap, ◌∙◌, inl, inr, ⊎_elim, arith, Option, None, Some, unwrap_or}
use Rattle.std.specs.Prelude.{sum}
use Rattle.std.proofs.lemmas.Bool.{lt-ltb, le-ltb, cond-true, cond-false, cases_eq, cases_lt}
use Rattle.plan_checker.specs.declared.graph.TheConstants.{MOST_VERTICES}
use Rattle.plan_checker.specs.declared.vertex.Vertex.{Vertex}
use Rattle.plan_checker.specs.declared.charges.Charges.{Charges}
use Rattle.plan_checker.specs.Sums.{sum_below}
use Rattle.plan_checker.specs.Graph.{vertex, IsGraph}
use Rattle.plan_checker.specs.Charges.{passes, received, AreFair}
use Rattle.plan_checker.proofs.SumsBelow.{sum_below_same, sum_below_le, sum_below-add, sum_below-le-product, sum_is_below, term-le-sum_below}
use Rattle.plan_checker.proofs.Duality.{parent_at, amount_at, passed_by_weight, received_is_passed}
use Rattle.flow_planner.specs.declared.network.TheConstants.{NO_BOUND}
use Rattle.flow_planner.specs.inner.Network.{AreFlowing}

pub length-graph-le : (graph : List Vertex) → IsGraph graph → length graph ≤ MOST_VERTICES
length-graph-le graph good =
    ⊎_elim (λ none. omega arith)
    (λ some. let last = (good (length graph - 1) (omega arith)).few_vertices in omega arith)
    (cases_eq (length graph) 0)

-- a sum of fewer terms is at most the sum
pub sum_below-part : (n m : ℕ) (f : ℕ → ℕ) → n ≤ m → sum_below n f ≤ sum_below m f
sum_below-part n zero f le = let e : n ≡ 0 = omega arith in let s = ap (λ k. sum_below k f) e in omega arith
sum_below-part n (suc m) f le =
    elim (cases_eq n (suc m)) [
      | inl e ↦ (let s = ap (λ k. sum_below k f) e in omega arith)
      | inr ne ↦ (let before = sum_below-part n m f (omega arith) in omega arith)
    ]

-- 1 below v, else 0
below : ℕ → ℕ → ℕ
below v p = cond (ltb p v) 1 0

below_one : (v p : ℕ) → p < v → below v p ≡ 1
unfolding below
below_one v p h = cond-true (ltb p v) 1 0 (lt-ltb p v h)

below_none : (v p : ℕ) → v ≤ p → below v p ≡ 0
unfolding below
below_none v p h = cond-false (ltb p v) 1 0 (le-ltb p v h)

-- a sum of which the terms below v count
sum_below-weighed : (v : ℕ) (f : ℕ → ℕ) (n : ℕ) → sum_below n (λ p. below v p * f p) ≤ sum_below v f
sum_below-weighed v f zero = omega arith
sum_below-weighed v f (suc n) =
    ⊎_elim
    (λ (lt : n < v).
    let same = sum_below_same (suc n) (λ p. below v p * f p) f (λ p h. let one = below_one v p (omega arith) in rw one (omega arith)) in
    let part = sum_below-part (suc n) v f (omega arith) in
    omega arith)
    (λ le.
    let before = sum_below-weighed v f n in
    let none : below v n * f n ≡ 0 = rw (below_none v n le) (omega arith) in
    omega arith)
    (cases_lt n v)

-- all that a vertex up to v passes goes below v
passed_below : (graph : List Vertex) (charges : Charges) (v i : ℕ) → IsGraph graph → AreFlowing graph charges → i < length graph → i ≤ v → sum (passes charges i) ≡ passed_by_weight (below v) graph charges i
passed_below graph charges v i good flowing h le =
    (flowing i h).passed
    ∙ sum_below_same (length (vertex graph i).parents) (amount_at charges i) (λ k. below v (parent_at graph i k) * amount_at charges i k)
    (λ k hk. let under = (good i h).below k 0 hk in let one = below_one v (parent_at graph i k) (omega arith) in rw one (omega arith))

-- what comes out of a vertex is at most what the vertices up to it pay
pub out_small : (graph : List Vertex) (charges : Charges) → IsGraph graph → AreFlowing graph charges → (v : ℕ) → v < length graph → get_or charges.pay v 0 + sum (passes charges v) < NO_BOUND
out_small graph charges good flowing v h =
    let n = length graph in
    let out : ℕ → ℕ = λ i. sum (passes charges i) in
    let pay : ℕ → ℕ = λ i. get_or charges.pay i 0 in
    let exchanged = received_is_passed (below v) graph charges good in
    let weighed = sum_below-weighed v (received graph charges) n in
    let balance = sum_below_le v (received graph charges) (λ i. pay i + out i)
    (λ i hi. let f = (flowing i (omega arith)).fair in let a = f.coming_in in let b = f.going_out in omega arith) in
    let split = sum_below-add v pay out in
    let passed = sum_below_same (suc v) out (passed_by_weight (below v) graph charges)
    (λ i hi. passed_below graph charges v i good flowing (omega arith) (omega arith)) in
    let part = sum_below-part (suc v) n (passed_by_weight (below v) graph charges) (omega arith) in
    let pays = sum_below-part (suc v) n pay (omega arith) in
    let most = sum_below-le-product n 1000000000000 pay
    (λ i hi. let p = (flowing i hi).fair.paying in let m = (good i hi).compute_cost.1 in omega arith) in
    let few = length-graph-le graph good in
    omega arith

-- fair charges flow
pub flowing_from : (graph : List Vertex) (charges : Charges) → AreFair graph charges → AreFlowing graph charges
flowing_from graph charges fair = λ i h. record {
  fair = fair.fair i h;
  passed = sum_is_below (passes charges i) ∙ ap (λ n. sum_below n (amount_at charges i)) (fair.counted.each_pass i h);
}

-- each amount is within the capacity of its arc
pub enter-le : (graph : List Vertex) (charges : Charges) → IsGraph graph → AreFlowing graph charges → (i : ℕ) → i < length graph → (needed : Bool) → (vertex graph i).needed ≡ needed → get_or charges.enter i 0 ≤ cond needed NO_BOUND 0
enter-le graph charges good flowing i h true is =
    let small = out_small graph charges good flowing i h in
    let f = (flowing i h).fair in
    let a = f.coming_in in
    let b = f.going_out in
    omega arith
enter-le graph charges good flowing i h false is = let none = (flowing i h).fair.entering is in omega arith

pub through-le : (graph : List Vertex) (charges : Charges) → IsGraph graph → AreFlowing graph charges → (i : ℕ) → i < length graph → (load : Option ℕ) → (vertex graph i).load ≡ load → get_or charges.through i 0 ≤ unwrap_or load NO_BOUND
through-le graph charges good flowing i h None is =
    let small = out_small graph charges good flowing i h in
    let b = (flowing i h).fair.going_out in
    omega arith
through-le graph charges good flowing i h (Some most) is = (flowing i h).fair.loading most is

pub pass-le : (graph : List Vertex) (charges : Charges) → IsGraph graph → AreFlowing graph charges → (i k : ℕ) → i < length graph → k < length (vertex graph i).parents → amount_at charges i k < NO_BOUND
pass-le graph charges good flowing i k h hk =
    let small = out_small graph charges good flowing i h in
    let whole = (flowing i h).passed in
    let term = term-le-sum_below (length (vertex graph i).parents) (amount_at charges i) k hk in
    omega arith
