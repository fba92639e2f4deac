use Rattle.std.proofs.Common.{◌≡◌, ◌≢◌, ℕ, ◌+◌, ◌<◌, ◌≤◌, All, List, length, set, sym, refl, ap, subst, ◌∙◌, ⊎_elim, arith, get_or-set_other, get_or-set_same}
use Rattle.std.specs.Prelude.{Option, Some, IsSome, unwrap_or}
use Rattle.std.proofs.lemmas.List.{length-set}
use Rattle.std.proofs.lemmas.List.Elements.{All-weaker}
use Rattle.std.proofs.lemmas.Bool.{cases_eq, cases_lt}
use Rattle.plan_checker.specs.declared.vertex.Vertex.{Vertex}
use Rattle.plan_checker.specs.declared.plan.Mark.{Mark}
use Rattle.plan_checker.specs.declared.plan.Mark.TheVariants.{Load, Compute, Prune}
use Rattle.plan_checker.specs.Graph.{vertex}
use Rattle.plan_checker.specs.Plan.{mark, cost, cost_of, IsAllowed, IsValid}
use Rattle.plan_checker.specs.Least.{IsCheapest, IsLeast}
use Rattle.plan_checker.proofs.SumsBelow.{sum_below_le, sum_below_tight}

-- the marks of a plan with another one for job i
mark_here : (marks : List Mark) (i : ℕ) (m : Mark) → i < length marks → mark (set marks i m) i ≡ m
mark_here marks i m there = get_or-set_same marks i m Prune there

mark_beside : (marks : List Mark) (i q : ℕ) (m : Mark) → q ≢ i → mark (set marks i m) q ≡ mark marks q
mark_beside marks i q m ne = get_or-set_other marks i q m Prune ne

-- what was kept still is
kept_still : (marks : List Mark) (i : ℕ) (m : Mark) → i < length marks → m ≢ Prune → (q : ℕ) → mark marks q ≢ Prune → mark (set marks i m) q ≢ Prune
kept_still marks i m there keeps q kept pruned =
    ⊎_elim
    (λ eq. keeps (sym (mark_here marks i m there) ∙ ap (mark (set marks i m)) (sym eq) ∙ pruned))
    (λ ne. kept (sym (mark_beside marks i q m ne) ∙ pruned))
    (cases_eq q i)

allowed_still : (marks : List Mark) (i : ℕ) (m : Mark) → i < length marks → m ≢ Prune → (job : Vertex) (n : Mark) → IsAllowed marks job n → IsAllowed (set marks i m) job n
allowed_still marks i m there keeps job Load h = h
allowed_still marks i m there keeps job Compute h =
    All-weaker (λ q. mark marks q ≢ Prune) (λ q. mark (set marks i m) q ≢ Prune) (kept_still marks i m there keeps) job.parents h
allowed_still marks i m there keeps job Prune h = h

-- a valid plan in which one job is loaded or computed, as it may be, is valid
valid_with : (graph : List Vertex) (marks : List Mark) (i : ℕ) (m : Mark) → IsValid graph marks → i < length graph → m ≢ Prune → IsAllowed marks (vertex graph i) m → IsValid graph (set marks i m)
valid_with graph marks i m valid below keeps allowed =
    let count = valid.one_each in
    let there : i < length marks = omega arith in
    let new : List Mark = set marks i m in
    let Here : Mark → Type 0 = λ x. IsAllowed new (vertex graph i) x in
    let There : ℕ → Type 0 = λ k. IsAllowed new (vertex graph k) (mark new k) in
    let here : There i = subst Here (sym (mark_here marks i m there)) (allowed_still marks i m there keeps (vertex graph i) m allowed) in
    record {
      one_each = length-set marks i m ∙ valid.one_each;
      allowed = λ k h. ⊎_elim
          (λ eq. subst There (sym eq) here)
          (λ ne.
          let Beside : Mark → Type 0 = λ x. IsAllowed new (vertex graph k) x in
          subst Beside (sym (mark_beside marks i k m ne)) (allowed_still marks i m there keeps (vertex graph k) (mark marks k) (valid.allowed k h)))
          (cases_eq k i);
    }

-- what each job costs there
costs_no_more : (graph : List Vertex) (marks : List Mark) (i : ℕ) (m : Mark) → i < length marks → cost_of (vertex graph i) m ≤ cost_of (vertex graph i) (mark marks i) → (k : ℕ) → cost_of (vertex graph k) (mark (set marks i m) k) ≤ cost_of (vertex graph k) (mark marks k)
costs_no_more graph marks i m there le k =
    let new : List Mark = set marks i m in
    ⊎_elim
    (λ eq.
    let At : ℕ → Type 0 = λ k. cost_of (vertex graph k) (mark new k) ≤ cost_of (vertex graph k) (mark marks k) in
    let same = ap (cost_of (vertex graph i)) (mark_here marks i m there) in
    let here : At i = omega arith in
    subst At (sym eq) here)
    (λ ne.
    let same = ap (cost_of (vertex graph k)) (mark_beside marks i k m ne) in
    omega arith)
    (cases_eq k i)

load_is_no_prune : Load ≢ Prune
load_is_no_prune e = cc

compute_is_no_prune : Compute ≢ Prune
compute_is_no_prune e = cc

load_is_no_compute : Load ≢ Compute
load_is_no_compute e = cc

-- a Least plan has no job that it could load as cheaply as it computes it
never_as_cheap : (graph : List Vertex) (marks : List Mark) → IsLeast graph marks → (i load : ℕ) → i < length graph → mark marks i ≡ Compute → (vertex graph i).load ≡ Some load → load ≤ (vertex graph i).compute → ⊥
never_as_cheap graph marks least i load below computed loads le =
    let valid = least.cheapest.valid in
    let count = valid.one_each in
    let there : i < length marks = omega arith in
    let new : List Mark = set marks i Load in
    let may : IsSome (vertex graph i).load = let P : Option ℕ → Type 0 = λ o. IsSome o in subst P (sym loads) refl in
    let is_valid : IsValid graph new = valid_with graph marks i Load valid below load_is_no_prune may in
    let loading : cost_of (vertex graph i) Load ≡ load = ap (λ o. unwrap_or o 0) loads in
    let computing : cost_of (vertex graph i) (mark marks i) ≡ (vertex graph i).compute = ap (cost_of (vertex graph i)) computed in
    let no_more = costs_no_more graph marks i Load there (omega arith) in
    let cheap : cost graph new ≤ cost graph marks = sum_below_le (length graph) (λ k. cost_of (vertex graph k) (mark new k)) (λ k. cost_of (vertex graph k) (mark marks k)) (λ k h. no_more k) in
    let cheapest : IsCheapest graph new = record {
      valid = is_valid;
      cheapest = λ other is_valid_too. let best = least.cheapest.cheapest other is_valid_too in omega arith;
    } in
    load_is_no_compute (sym (mark_here marks i Load there) ∙ (least.least new cheapest).computes i below computed)

pub computed_costs_less : (graph : List Vertex) (marks : List Mark) → IsLeast graph marks → (i load : ℕ) → i < length graph → mark marks i ≡ Compute → (vertex graph i).load ≡ Some load → (vertex graph i).compute < load
computed_costs_less graph marks least i load below computed loads =
    ⊎_elim (λ lt. lt) (λ le. absurd (never_as_cheap graph marks least i load below computed loads le)) (cases_lt (vertex graph i).compute load)

pub dear_load_spares : (graph : List Vertex) (marks : List Mark) → IsCheapest graph marks → (i load : ℕ) → i < length graph → mark marks i ≡ Load → (vertex graph i).load ≡ Some load → (vertex graph i).compute < load → ¬ All (λ parent. mark marks parent ≢ Prune) (vertex graph i).parents
dear_load_spares graph marks cheapest i load below loaded loads dear all_kept =
    let valid = cheapest.valid in
    let count = valid.one_each in
    let there : i < length marks = omega arith in
    let new : List Mark = set marks i Compute in
    let is_valid : IsValid graph new = valid_with graph marks i Compute valid below compute_is_no_prune all_kept in
    let loading : cost_of (vertex graph i) (mark marks i) ≡ load = ap (cost_of (vertex graph i)) loaded ∙ ap (λ o. unwrap_or o 0) loads in
    let now : cost_of (vertex graph i) (mark new i) ≡ (vertex graph i).compute = ap (cost_of (vertex graph i)) (mark_here marks i Compute there) in
    let no_more = costs_no_more graph marks i Compute there (omega arith) in
    let best = cheapest.cheapest new is_valid in
    let same = sum_below_tight (length graph) (λ k. cost_of (vertex graph k) (mark new k)) (λ k. cost_of (vertex graph k) (mark marks k)) (λ k h. no_more k) best i below in
    omega arith
