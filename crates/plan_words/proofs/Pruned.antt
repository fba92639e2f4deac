use Rattle.std.proofs.Common.{◌≡◌, ◌≢◌, ℕ, zero, suc, ◌+◌, ◌<◌, All, Bool, cond, eqb, List, [], ◌∷◌, length, count_by, refl, ap, ◌∙◌, arith}
use Rattle.std.proofs.lemmas.Bool.{ne_eqb}
use Rattle.std.proofs.lemmas.List.Elements.{All-head, All-tail, All-weaker}
use Rattle.std.proofs.lemmas.List.Sums.{sum_by-cons}
use Rattle.plan_checker.specs.declared.vertex.Vertex.{Vertex}
use Rattle.plan_checker.specs.declared.plan.Mark.{Mark}
use Rattle.plan_checker.specs.declared.plan.Mark.TheVariants.{Load, Compute, Prune}
use Rattle.plan_checker.specs.Graph.{vertex}
use Rattle.plan_checker.specs.Plan.{mark, IsAllowed, IsValid}
use Rattle.plan_checker.specs.Sums.{sum_below}
use Rattle.plan_words.specs.Marks.{is_same}
use Rattle.plan_words.specs.Readers.{times_read, readers}

-- a number that isn't among others is there no time
not_among : (p : ℕ) (xs : List ℕ) → All (λ x. x ≢ p) xs → times_read p xs ≡ 0
not_among p [] h = refl
not_among p (x ∷ xs) h =
    let bit : Bool → ℕ = λ (b : Bool). cond b 1 0 in
    let step : times_read p (x ∷ xs) ≡ bit (eqb x p) + times_read p xs = sum_by-cons (λ o. cond (eqb o p) 1 0) x xs in
    let none : bit (eqb x p) ≡ 0 = ap bit (ne_eqb x p (All-head (λ x. x ≢ p) x xs h)) in
    let rest : times_read p xs ≡ 0 = not_among p xs (All-tail (λ x. x ≢ p) x xs h) in
    step ∙ ap (λ n. n + times_read p xs) none ∙ ap (λ n. 0 + n) rest

-- a job that is allowed, and computed, doesn't read what is pruned
reads_nothing_pruned : (marks : List Mark) (job : Vertex) (m : Mark) (p : ℕ) → IsAllowed marks job m → mark marks p ≡ Prune → cond (is_same m Compute) (times_read p job.parents) 0 ≡ 0
reads_nothing_pruned marks job Load p allowed pruned = refl
reads_nothing_pruned marks job Compute p allowed pruned =
    not_among p job.parents (All-weaker (λ q. mark marks q ≢ Prune) (λ q. q ≢ p) (λ q kept e. kept (ap (mark marks) e ∙ pruned)) job.parents allowed)
reads_nothing_pruned marks job Prune p allowed pruned = refl

sum_of_none : (n : ℕ) (f : ℕ → ℕ) → ((i : ℕ) → i < n → f i ≡ 0) → sum_below n f ≡ 0
sum_of_none zero f none = refl
sum_of_none (suc n) f none =
    let rest = sum_of_none n f (λ i h. none i (omega arith)) in
    let last = none n (omega arith) in
    omega arith

pub none_computed : (graph : List Vertex) (marks : List Mark) → IsValid graph marks → (i : ℕ) → mark marks i ≡ Prune → readers graph marks Compute i ≡ 0
none_computed graph marks valid i pruned =
    sum_of_none (length graph) (λ k. cond (is_same (mark marks k) Compute) (times_read i (vertex graph k).parents) 0)
    (λ k h. reads_nothing_pruned marks (vertex graph k) (mark marks k) i (valid.allowed k h) pruned)
