-- What a settled search shows: its marks are a certificate.
use Rattle.std.proofs.Common.{◌≡◌, ◌≢◌, ℕ, ◌+◌, ◌*◌, ◌<◌, ◌≤◌, List, Bool, true, false, eqb, length, get_or, sum, sym, refl, ap, ◌∙◌, subst, inl, inr, ⊎_elim, ◌⊎◌, arith, None, Some, Option, IsSome, unwrap_or}
use Rattle.std.specs.Prelude.{IsSomeAnd}
use Rattle.std.proofs.lemmas.List.{get_or_default}
use Rattle.std.proofs.lemmas.Bool.{eq-eqb, ne_eqb, cond-true, cond-false, cases_eq}
use Rattle.plan_checker.specs.declared.vertex.Vertex.{Vertex}
use Rattle.plan_checker.specs.declared.plan.Mark.{Mark}
use Rattle.plan_checker.specs.declared.plan.Mark.TheVariants.{Load, Compute, Prune}
use Rattle.plan_checker.specs.declared.charges.Charges.{Charges}
use Rattle.plan_checker.specs.Sums.{sum_below}
use Rattle.plan_checker.specs.Graph.{vertex, IsGraph}
use Rattle.plan_checker.specs.Plan.{mark, cost_of, IsAllowed}
use Rattle.plan_checker.specs.Charges.{passes, received, AreFair}
use Rattle.plan_checker.specs.Certificate.{IsCertificate}
use Rattle.plan_checker.proofs.SumsBelow.{sum_below_same, sum_below-zero, sum_is_below}
use Rattle.plan_checker.proofs.Duality.{parent_at, amount_at, passed_by_weight, is_kept, kept as weight_of, income, outlay, income_sum, outlay_sum}
use Rattle.flow_planner.specs.Network.{shown}

-- no arc with room leads, at vertex v, from a node that was reached to one that was not, or to the sink; first and second
-- are above 0 for the nodes that were reached
pub record IsSettled (graph : List Vertex) (charges : Charges) (first second : ℕ → ℕ) (v : ℕ) : Type 0 where
  pub enters : (vertex graph v).needed ≡ true → 0 < first v
  pub passes_back : (k : ℕ) → k < length (vertex graph v).parents → 0 < first (parent_at graph v k) → 0 < amount_at charges v k → 0 < second v
  pub goes_through : 0 < first v → second v ≡ 0 → IsSomeAnd (vertex graph v).load (λ load. load ≤ get_or charges.through v 0)
  pub goes_back : 0 < second v → 0 < get_or charges.through v 0 → 0 < first v
  pub passes : (k : ℕ) → k < length (vertex graph v).parents → 0 < second v → 0 < first (parent_at graph v k)
  pub pays : 0 < second v → (vertex graph v).compute ≤ get_or charges.pay v 0

-- what a settled search shows at each vertex, given what its marks are
pub record IsFinal (graph : List Vertex) (charges : Charges) (first second : ℕ → ℕ) (marks : List Mark) : Type 0 where
  pub good : IsGraph graph
  pub fair : AreFair graph charges
  pub settled : (v : ℕ) → v < length graph → IsSettled graph charges first second v
  pub count : length marks ≡ length graph
  pub are : (v : ℕ) → v < length graph → mark marks v ≡ shown (first v) (second v)

-- the marks by their cases
shown-compute : (k c : ℕ) → 0 < c → shown k c ≡ Compute
shown-compute k c h = cond-false (eqb c 0) _ _ (ne_eqb c 0 (λ e. omega arith))

shown-load : (k c : ℕ) → c ≡ 0 → 0 < k → shown k c ≡ Load
shown-load k c none some = cond-true (eqb c 0) _ _ (eq-eqb c 0 none) ∙ cond-false (eqb k 0) _ _ (ne_eqb k 0 (λ e. omega arith))

shown-prune : (k c : ℕ) → c ≡ 0 → k ≡ 0 → shown k c ≡ Prune
shown-prune k c none nor = cond-true (eqb c 0) _ _ (eq-eqb c 0 none) ∙ cond-true (eqb k 0) _ _ (eq-eqb k 0 nor)

-- a vertex that is not pruned has a node that was reached
shown_kept : (k c : ℕ) → shown k c ≢ Prune → (0 < k) ⊎ (0 < c)
shown_kept k c ne =
    elim (cases_eq c 0) [
      | inl none ↦ (elim (cases_eq k 0) [
        | inl nor ↦ absurd (ne (shown-prune k c none nor))
        | inr some ↦ inl (omega arith)
      ])
      | inr some ↦ inr (omega arith)
    ]

pub shown_computed : (k c : ℕ) → shown k c ≡ Compute → 0 < c
shown_computed k c e =
    elim (cases_eq c 0) [
      | inl none ↦ (elim (cases_eq k 0) [
        | inl nor ↦ (let other = shown-prune k c none nor in cc)
        | inr some ↦ (let other = shown-load k c none (omega arith) in cc)
      ])
      | inr some ↦ omega arith
    ]

some_at_most : (o : Option ℕ) (n : ℕ) → IsSomeAnd o (λ load. load ≤ n) → IsSome o × (unwrap_or o 0 ≤ n)
some_at_most None n h = absurd h
some_at_most (Some x) n h = (refl, h)

pub some_is : (o : Option ℕ) → IsSome o → o ≡ Some (unwrap_or o 0)
some_is None there = cc
some_is (Some x) there = refl

kept_one : (m : Mark) → m ≢ Prune → weight_of m ≡ 1
kept_one Load ne = refl
kept_one Compute ne = refl
kept_one Prune ne = absurd (ne refl)

kept_zero_or_one : (m : Mark) → (m ≢ Prune) ⊎ (weight_of m ≡ 0)
kept_zero_or_one Load = inl (λ e. cc)
kept_zero_or_one Compute = inl (λ e. cc)
kept_zero_or_one Prune = inr refl

unneeded : (needed : Bool) → (needed ≡ true → ⊥) → needed ≡ false
unneeded true h = absurd (h refl)
unneeded false h = refl

module _ (graph : List Vertex) (charges : Charges) (first second : ℕ → ℕ) (marks : List Mark) (final : IsFinal graph charges first second marks) where
  -- a vertex whose second node was reached pays, so something goes through it, and its first node was reached
  computed_is_kept : (v : ℕ) → v < length graph → 0 < second v → 0 < first v
  computed_is_kept v h reached =
      let pays = (final.settled v h).pays reached in
      let some = (final.good v h).compute_cost.0 in
      let out = (final.fair.fair v h).going_out in
      (final.settled v h).goes_back reached (omega arith)

  pub kept_from_mark : (v : ℕ) → v < length graph → mark marks v ≢ Prune → 0 < first v
  kept_from_mark v h ne =
      ⊎_elim (λ k. k) (computed_is_kept v h) (shown_kept (first v) (second v) (λ e. ne (final.are v h ∙ e)))

  mark_from_kept : (v : ℕ) → v < length graph → 0 < first v → mark marks v ≢ Prune
  mark_from_kept v h k e =
      let are = final.are v h in
      elim (cases_eq (second v) 0) [
        | inl none ↦ (let load = shown-load (first v) (second v) none k in cc)
        | inr some ↦ (let compute = shown-compute (first v) (second v) (omega arith) in cc)
      ]

  none_from_mark : (v : ℕ) → v < length graph → mark marks v ≢ Compute → second v ≡ 0
  none_from_mark v h ne =
      elim (cases_eq (second v) 0) [
        | inl e ↦ e
        | inr some ↦ absurd (ne (final.are v h ∙ shown-compute (first v) (second v) (omega arith)))
      ]

  -- a vertex whose second node was not reached passes nothing to parents that are kept
  passes_none : (v : ℕ) → v < length graph → second v ≡ 0 → passed_by_weight (is_kept marks) graph charges v ≡ 0
  passes_none v h none =
      sum_below_same (length (vertex graph v).parents) (λ k. is_kept marks (parent_at graph v k) * amount_at charges v k) (λ k. 0)
      (λ k hk.
      let below = (final.good v h).below k 0 hk in
      let parent : parent_at graph v k < length graph = omega arith in
      elim (kept_zero_or_one (mark marks (parent_at graph v k))) [
        | inl ne ↦ (
            let there = kept_from_mark (parent_at graph v k) parent ne in
            elim (cases_eq (amount_at charges v k) 0) [
              | inl e ↦ rw e (omega arith)
              | inr some ↦ (let reached = (final.settled v h).passes_back k hk there (omega arith) in absurd (omega arith))
            ])
        | inr e ↦ rw e (omega arith)
      ])
      ∙ sum_below-zero (length (vertex graph v).parents)

  parents_kept : (v : ℕ) → v < length graph → 0 < second v → IsAllowed marks (vertex graph v) Compute
  parents_kept v h reached = λ k d hk.
      let below = (final.good v h).below k d hk in
      let same = get_or_default (vertex graph v).parents k 0 d hk in
      mark_from_kept (get_or (vertex graph v).parents k d) (omega arith)
      (subst (λ p. 0 < first p) same ((final.settled v h).passes k hk reached))

  passed_to_kept : (v : ℕ) → v < length graph → IsAllowed marks (vertex graph v) Compute → passed_by_weight (is_kept marks) graph charges v ≡ sum (passes charges v)
  passed_to_kept v h parents =
      sum_below_same (length (vertex graph v).parents) (λ k. is_kept marks (parent_at graph v k) * amount_at charges v k) (amount_at charges v)
      (λ k hk. let one = kept_one (mark marks (parent_at graph v k)) (parents k 0 hk) in rw one (omega arith))
      ∙ ap (λ n. sum_below n (amount_at charges v)) (sym (final.fair.counted.each_pass v h))
      ∙ sym (sum_is_below (passes charges v))

  -- each vertex is allowed under its mark, and what comes in there is all that goes out
  allowed_and_balanced : (v : ℕ) → v < length graph → (m : Mark) → mark marks v ≡ m → IsAllowed marks (vertex graph v) m × (get_or charges.enter v 0 + weight_of m * received graph charges v ≡ cost_of (vertex graph v) m + passed_by_weight (is_kept marks) graph charges v)
  allowed_and_balanced v h Load is =
      let reached = kept_from_mark v h (λ e. cc) in
      let none = none_from_mark v h (λ e. cc) in
      let full = some_at_most (vertex graph v).load (get_or charges.through v 0) ((final.settled v h).goes_through reached none) in
      let most = (final.fair.fair v h).loading (unwrap_or (vertex graph v).load 0) (some_is (vertex graph v).load full.0) in
      let come = (final.fair.fair v h).coming_in in
      let away = passes_none v h none in
      let least = full.1 in
      (full.0, omega arith)
  allowed_and_balanced v h Compute is =
      let reached = shown_computed (first v) (second v) (sym (final.are v h) ∙ is) in
      let parents = parents_kept v h reached in
      let all = passed_to_kept v h parents in
      let pays = (final.settled v h).pays reached in
      let most = (final.fair.fair v h).paying in
      let come = (final.fair.fair v h).coming_in in
      let out = (final.fair.fair v h).going_out in
      (parents, omega arith)
  allowed_and_balanced v h Prune is =
      let needless : (vertex graph v).needed ≡ false =
      unneeded (vertex graph v).needed (λ needed. mark_from_kept v h ((final.settled v h).enters needed) is) in
      let none = none_from_mark v h (λ e. cc) in
      let enter = (final.fair.fair v h).entering needless in
      let away = passes_none v h none in
      (needless, omega arith)

  -- the marks of a settled search certify
  pub certificate_from : IsCertificate graph marks charges
  certificate_from =
      let each = λ (v : ℕ) (h : v < length graph). allowed_and_balanced v h (mark marks v) refl in
      let same = sum_below_same (length graph) (income graph marks charges) (outlay graph marks charges) (λ v h. (each v h).1) in
      let left = income_sum graph marks charges final.fair.counted in
      let right = outlay_sum graph marks charges final.good in
      record {
        valid = record { one_each = final.count; allowed = λ v h. (each v h).0 };
        fair = final.fair;
        balanced = omega arith;
      }
