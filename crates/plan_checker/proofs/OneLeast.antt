use Rattle.std.proofs.Common.{◌≡◌, ◌≢◌, ◌<◌, List, length, sym, refl, ◌∙◌, arith}
use Rattle.std.proofs.lemmas.List.{ext_get_or}
use Rattle.plan_checker.specs.declared.vertex.Vertex.{Vertex}
use Rattle.plan_checker.specs.declared.plan.Mark.{Mark}
use Rattle.plan_checker.specs.declared.plan.Mark.TheVariants.{Load, Compute, Prune}
use Rattle.plan_checker.specs.Plan.{mark}
use Rattle.plan_checker.specs.Least.{IsLeast}

-- marks that compute alike and prune alike are equal
same_mark : (a b : Mark) → (a ≡ Compute → b ≡ Compute) → (b ≡ Compute → a ≡ Compute) → (a ≢ Prune → b ≢ Prune) → (b ≢ Prune → a ≢ Prune) → a ≡ b
same_mark Load Load p q r s = refl
same_mark Load Compute p q r s = q refl
same_mark Load Prune p q r s = absurd (r (λ e. (cc)) refl)
same_mark Compute Load p q r s = sym (p refl)
same_mark Compute Compute p q r s = refl
same_mark Compute Prune p q r s = sym (p refl)
same_mark Prune Load p q r s = absurd (s (λ e. (cc)) refl)
same_mark Prune Compute p q r s = q refl
same_mark Prune Prune p q r s = refl

pub least_plans_are_equal : (graph : List Vertex) (marks other : List Mark) → IsLeast graph marks → IsLeast graph other → marks ≡ other
least_plans_are_equal graph marks other a b =
    let there = a.least other b.cheapest in
    let back = b.least marks a.cheapest in
    let count = a.cheapest.valid.one_each in
    ext_get_or Prune marks other (count ∙ sym b.cheapest.valid.one_each)
    (λ i h. let below : i < length graph = omega arith in same_mark (mark marks i) (mark other i) (there.computes i below) (back.computes i below) (there.keeps i below) (back.keeps i below))
