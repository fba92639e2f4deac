use Rattle.std.proofs.Common.{◌≡◌, ◌≢◌, ℕ, ◌+◌, ◌*◌, ◌<◌, ◌≤◌, List, cond, eqb, length, get_or, sum, sym, refl, ap, ◌∙◌, arith, None, Some, Option, IsSome, unwrap_or}
use Rattle.std.proofs.Math.Nat.{mul-zero}
use Rattle.std.proofs.lemmas.Bool.{eq-eqb, ne_eqb, cond-true, cond-false}
use Rattle.plan_checker.specs.declared.vertex.Vertex.{Vertex}
use Rattle.plan_checker.specs.declared.plan.Mark.{Mark}
use Rattle.plan_checker.specs.declared.plan.Mark.TheVariants.{Load, Compute, Prune}
use Rattle.plan_checker.specs.declared.charges.Charges.{Charges}
use Rattle.plan_checker.specs.Sums.{sum_below}
use Rattle.plan_checker.specs.Graph.{vertex, IsGraph}
use Rattle.plan_checker.specs.Plan.{mark, cost_of, cost, IsAllowed, IsValid}
use Rattle.plan_checker.specs.Charges.{passes, received, value, IsCounted, IsFair, AreFair}
use Rattle.plan_checker.proofs.SumsBelow.{sum_below_same, sum_below_le, sum_below_tight, sum_below-add, sum_below-scale, sum_below-swap, sum_below_only, sum_is_below, term-le-sum_below}
use Rattle.plan_checker.specs.Certificate.{IsCertificate}
use Rattle.plan_checker.specs.Least.{IsCheapest}

-- a parent of vertex i, and what i passes to it, by place
abbrev pub parent_at : List Vertex → ℕ → ℕ → ℕ
parent_at graph i k = get_or (vertex graph i).parents k 0

abbrev pub amount_at : Charges → ℕ → ℕ → ℕ
amount_at charges i k = get_or (passes charges i) k 0

-- what vertex i passes, each amount weighed by the weight of the parent that it goes to
abbrev pub passed_by_weight : (ℕ → ℕ) → List Vertex → Charges → ℕ → ℕ
passed_by_weight weight graph charges i =
    sum_below (length (vertex graph i).parents) (λ k. weight (parent_at graph i k) * amount_at charges i k)

-- weighing what one place passes to the parents: only the parent itself counts
weigh_place : (weight : ℕ → ℕ) (n parent amount : ℕ) → parent < n → sum_below n (λ p. weight p * cond (eqb parent p) amount 0) ≡ weight parent * amount
weigh_place weight n parent amount h =
    let others : (p : ℕ) → p < n → p ≢ parent → weight p * cond (eqb parent p) amount 0 ≡ 0 =
    λ p below ne. ap (λ x. weight p * x) (cond-false (eqb parent p) amount 0 (ne_eqb parent p (λ e. ne (sym e)))) ∙ mul-zero (weight p)
    in
    sum_below_only n (λ p. weight p * cond (eqb parent p) amount 0) parent h others
    ∙ ap (λ x. weight parent * x) (cond-true (eqb parent parent) amount 0 (eq-eqb parent parent refl))

-- what is received, weighed by who receives it, is what is passed, weighed by whom it goes to
pub received_is_passed : (weight : ℕ → ℕ) (graph : List Vertex) (charges : Charges) → IsGraph graph → sum_below (length graph) (λ p. weight p * received graph charges p) ≡ sum_below (length graph) (passed_by_weight weight graph charges)
received_is_passed weight graph charges good =
    let n : ℕ = length graph in
    let m : ℕ → ℕ = λ i. length (vertex graph i).parents in
    let part : ℕ → ℕ → ℕ → ℕ = λ p i k. cond (eqb (parent_at graph i k) p) (amount_at charges i k) 0 in
    let spread : (p : ℕ) → weight p * received graph charges p ≡ sum_below n (λ i. sum_below (m i) (λ k. weight p * part p i k)) =
    λ p.
    sym (sum_below-scale n (weight p) (λ i. sum_below (m i) (part p i)))
    ∙ sum_below_same n (λ i. weight p * sum_below (m i) (part p i)) (λ i. sum_below (m i) (λ k. weight p * part p i k)) (λ i h. sym (sum_below-scale (m i) (weight p) (part p i)))
    in
    let gather : (i : ℕ) → i < n → sum_below n (λ p. sum_below (m i) (λ k. weight p * part p i k)) ≡ passed_by_weight weight graph charges i =
    λ i h.
    sum_below-swap n (m i) (λ p k. weight p * part p i k)
    ∙ sum_below_same (m i) (λ k. sum_below n (λ p. weight p * part p i k)) (λ k. weight (parent_at graph i k) * amount_at charges i k)
    (λ k hk. let below = (good i h).below k 0 hk in weigh_place weight n (parent_at graph i k) (amount_at charges i k) (omega arith))
    in
    sum_below_same n (λ p. weight p * received graph charges p) (λ p. sum_below n (λ i. sum_below (m i) (λ k. weight p * part p i k))) (λ p h. spread p)
    ∙ sum_below-swap n n (λ p i. sum_below (m i) (λ k. weight p * part p i k))
    ∙ sum_below_same n (λ i. sum_below n (λ p. sum_below (m i) (λ k. weight p * part p i k))) (passed_by_weight weight graph charges) gather

-- 1 for a vertex that is kept, 0 for one that is pruned
abbrev pub kept : Mark → ℕ
kept Load = 1
kept Compute = 1
kept Prune = 0

abbrev pub is_kept : List Mark → ℕ → ℕ
is_kept marks i = kept (mark marks i)

kept_is_one : (m : Mark) → m ≢ Prune → kept m ≡ 1
kept_is_one Load ne = refl
kept_is_one Compute ne = refl
kept_is_one Prune ne = absurd (ne refl)

-- what comes in at vertex i for good, where it is kept; and what it costs, with what it passes to kept parents
abbrev pub income : List Vertex → List Mark → Charges → ℕ → ℕ
income graph marks charges i = get_or charges.enter i 0 + is_kept marks i * received graph charges i

abbrev pub outlay : List Vertex → List Mark → Charges → ℕ → ℕ
outlay graph marks charges i = cost_of (vertex graph i) (mark marks i) + passed_by_weight (is_kept marks) graph charges i

-- where each parent of vertex i is kept, all that it passes counts
passed_to_kept : (graph : List Vertex) (marks : List Mark) (charges : Charges) (i : ℕ) → length (passes charges i) ≡ length (vertex graph i).parents → IsAllowed marks (vertex graph i) Compute → passed_by_weight (is_kept marks) graph charges i ≡ sum (passes charges i)
passed_to_kept graph marks charges i counted parents_kept =
    sum_below_same (length (vertex graph i).parents) (λ k. is_kept marks (parent_at graph i k) * amount_at charges i k) (amount_at charges i)
    (λ k hk. let one = kept_is_one (mark marks (parent_at graph i k)) (parents_kept k 0 hk) in rw one (omega arith))
    ∙ ap (λ n. sum_below n (amount_at charges i)) (sym counted)
    ∙ sym (sum_is_below (passes charges i))

some_is : (o : Option ℕ) → IsSome o → o ≡ Some (unwrap_or o 0)
some_is None there = cc
some_is (Some x) there = refl

-- where vertex i is allowed under its mark, and its charges are fair, what comes in is at most what goes out
income_within : (m : Mark) (graph : List Vertex) (marks : List Mark) (charges : Charges) (i : ℕ) → length (passes charges i) ≡ length (vertex graph i).parents → IsFair graph charges i → IsAllowed marks (vertex graph i) m → get_or charges.enter i 0 + kept m * received graph charges i ≤ cost_of (vertex graph i) m + passed_by_weight (is_kept marks) graph charges i
income_within Load graph marks charges i counted fair allowed =
    let le = fair.loading (unwrap_or (vertex graph i).load 0) (some_is (vertex graph i).load allowed) in
    let come = fair.coming_in in
    omega arith
income_within Compute graph marks charges i counted fair allowed =
    let all = passed_to_kept graph marks charges i counted allowed in
    omega arith
income_within Prune graph marks charges i counted fair allowed =
    let none = fair.entering allowed in
    omega arith

pub income-le-outlay : (graph : List Vertex) (marks : List Mark) (charges : Charges) → AreFair graph charges → IsValid graph marks → (i : ℕ) → i < length graph → income graph marks charges i ≤ outlay graph marks charges i
income-le-outlay graph marks charges fair valid i h =
    income_within (mark marks i) graph marks charges i (fair.counted.each_pass i h) (fair.fair i h) (valid.allowed i h)

-- what it means for a vertex under a mark that what comes in is all that goes out
abbrev pub IsTight : Mark → List Vertex → List Mark → Charges → ℕ → Type 0
IsTight Load graph marks charges i =
    (get_or charges.through i 0 ≡ unwrap_or (vertex graph i).load 0) × (passed_by_weight (is_kept marks) graph charges i ≡ 0)
IsTight Compute graph marks charges i = get_or charges.pay i 0 ≡ (vertex graph i).compute
IsTight Prune graph marks charges i = passed_by_weight (is_kept marks) graph charges i ≡ 0

tight_from : (m : Mark) (graph : List Vertex) (marks : List Mark) (charges : Charges) (i : ℕ) → length (passes charges i) ≡ length (vertex graph i).parents → IsFair graph charges i → IsAllowed marks (vertex graph i) m → get_or charges.enter i 0 + kept m * received graph charges i ≡ cost_of (vertex graph i) m + passed_by_weight (is_kept marks) graph charges i → IsTight m graph marks charges i
tight_from Load graph marks charges i counted fair allowed equal =
    let le = fair.loading (unwrap_or (vertex graph i).load 0) (some_is (vertex graph i).load allowed) in
    let come = fair.coming_in in
    (omega arith, omega arith)
tight_from Compute graph marks charges i counted fair allowed equal =
    let all = passed_to_kept graph marks charges i counted allowed in
    let come = fair.coming_in in
    let go = fair.going_out in
    let pay = fair.paying in
    omega arith
tight_from Prune graph marks charges i counted fair allowed equal =
    let none = fair.entering allowed in
    omega arith

value_by_place : (graph : List Vertex) (charges : Charges) → IsCounted graph charges → value charges ≡ sum_below (length graph) (λ i. get_or charges.enter i 0)
value_by_place graph charges counted =
    sum_is_below charges.enter ∙ ap (λ n. sum_below n (λ i. get_or charges.enter i 0)) counted.enters

-- both sides summed: the same amount is received and passed on both sides, beside the value and the cost
pub income_sum : (graph : List Vertex) (marks : List Mark) (charges : Charges) → IsCounted graph charges → sum_below (length graph) (income graph marks charges) ≡ value charges + sum_below (length graph) (λ p. is_kept marks p * received graph charges p)
income_sum graph marks charges counted =
    let split = sum_below-add (length graph) (λ i. get_or charges.enter i 0) (λ p. is_kept marks p * received graph charges p) in
    let worth = value_by_place graph charges counted in
    omega arith

pub outlay_sum : (graph : List Vertex) (marks : List Mark) (charges : Charges) → IsGraph graph → sum_below (length graph) (outlay graph marks charges) ≡ cost graph marks + sum_below (length graph) (λ p. is_kept marks p * received graph charges p)
outlay_sum graph marks charges good =
    let split = sum_below-add (length graph) (λ i. cost_of (vertex graph i) (mark marks i)) (passed_by_weight (is_kept marks) graph charges) in
    let exchanged = received_is_passed (is_kept marks) graph charges good in
    omega arith

-- weak duality
pub value-le-cost : (graph : List Vertex) (charges : Charges) (marks : List Mark) → IsGraph graph → AreFair graph charges → IsValid graph marks → value charges ≤ cost graph marks
value-le-cost graph charges marks good fair valid =
    let le = sum_below_le (length graph) (income graph marks charges) (outlay graph marks charges) (income-le-outlay graph marks charges fair valid) in
    let left = income_sum graph marks charges fair.counted in
    let right = outlay_sum graph marks charges good in
    omega arith

-- a valid plan that costs no more than fair charges are worth is tight at each vertex
pub tight_everywhere : (graph : List Vertex) (charges : Charges) (marks : List Mark) → IsGraph graph → AreFair graph charges → IsValid graph marks → cost graph marks ≤ value charges → (i : ℕ) → i < length graph → IsTight (mark marks i) graph marks charges i
tight_everywhere graph charges marks good fair valid most i h =
    let left = income_sum graph marks charges fair.counted in
    let right = outlay_sum graph marks charges good in
    let equal = sum_below_tight (length graph) (income graph marks charges) (outlay graph marks charges) (income-le-outlay graph marks charges fair valid) (omega arith) i h in
    tight_from (mark marks i) graph marks charges i (fair.counted.each_pass i h) (fair.fair i h) (valid.allowed i h) equal

-- what is passed to a kept parent, by a vertex that passes nothing to kept parents
pub none_to_kept : (graph : List Vertex) (marks : List Mark) (charges : Charges) (i k : ℕ) → passed_by_weight (is_kept marks) graph charges i ≡ 0 → k < length (vertex graph i).parents → mark marks (parent_at graph i k) ≢ Prune → amount_at charges i k ≡ 0
none_to_kept graph marks charges i k none h there =
    let one = kept_is_one (mark marks (parent_at graph i k)) there in
    let part = term-le-sum_below (length (vertex graph i).parents) (λ k. is_kept marks (parent_at graph i k) * amount_at charges i k) k h in
    let here : is_kept marks (parent_at graph i k) * amount_at charges i k ≡ amount_at charges i k = rw one (omega arith) in
    omega arith

pub certificate_is_cheapest : (graph : List Vertex) (marks : List Mark) (charges : Charges) → IsGraph graph → IsCertificate graph marks charges → IsCheapest graph marks
certificate_is_cheapest graph marks charges good certificate = record {
  valid = certificate.valid;
  cheapest = λ other valid. let le = value-le-cost graph charges other good certificate.fair valid in let e = certificate.balanced in omega arith;
}
