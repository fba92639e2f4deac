-- Where vertices stand apart, the marks and charges of each by itself are the Least plan and what certifies it.
use Rattle.std.proofs.Common.{◌≡◌, ◌≢◌, ◌⊎◌, ℕ, zero, suc, ◌<◌, ◌≤◌, leb, eqb, Bool, true, false, cond, Option, IsSome, Some, None, unwrap_or, List, [], ◌∷◌, length, get_or, map, sum, All, Contains, subst, sym, refl, ap, ◌∙◌, inl, inr, ⊎_elim, true≢false, arith}
use Rattle.std.proofs.lemmas.Bool.{cases_eq, leb-true, leb-false}
use Rattle.std.proofs.lemmas.List.{get_or-map, get_or_default, length-map}
use Rattle.std.proofs.lemmas.List.Elements.{All-contains, All-contains_itself}
use Rattle.plan_checker.specs.declared.vertex.Vertex.{Vertex}
use Rattle.plan_checker.specs.declared.plan.Mark.{Mark}
use Rattle.plan_checker.specs.declared.plan.Mark.TheVariants.{Load, Compute, Prune}
use Rattle.plan_checker.specs.declared.charges.Charges.{Charges}
use Rattle.plan_checker.specs.Graph.{vertex, no_vertex, IsGraph}
use Rattle.plan_checker.specs.Sums.{sum_below}
use Rattle.plan_checker.specs.Plan.{mark, cost, cost_of, IsAllowed, IsValid}
use Rattle.plan_checker.specs.Charges.{passes, passed_to, received, value, IsCounted, IsFair, AreFair}
use Rattle.plan_checker.specs.Least.{IsLeast}
use Rattle.plan_checker.specs.Certificate.{IsCertificate}
use Rattle.plan_checker.proofs.SumsBelow.{below_or_last, sum_below_same, sum_below_tight, sum_below-zero, sum_is_below}
use Rattle.plan_checker.proofs.Duality.{certificate_is_cheapest}
use Rattle.plan_keeper.specs.Free.{IsFree}
use Rattle.plan_keeper.specs.Apart.{AreApart, kept_alone, alone, price, charge, no_passes, AreMarkedApart, AreChargesApart}

-- what is done with a job by itself, what that costs, and what is charged, by the job's costs

job_of : Option ℕ → ℕ → Bool → Vertex
job_of load compute needed = record { load = load; compute = compute; parents = []; needed = needed }

mark_of : Option ℕ → ℕ → Bool → Mark
mark_of load compute needed = cond needed (kept_alone load compute) Prune

cost_to : Option ℕ → ℕ → Bool → ℕ
cost_to load compute needed = cond needed (price load compute) 0

either : (b : Bool) → (b ≡ true) ⊎ (b ≡ false)
either true = inl refl
either false = inr refl

loaded_where : (load compute : ℕ) → leb load compute ≡ true → kept_alone (Some load) compute ≡ Load
loaded_where load compute e = ap (λ b. cond b Load Compute) e

computed_where : (load compute : ℕ) → leb load compute ≡ false → kept_alone (Some load) compute ≡ Compute
computed_where load compute e = ap (λ b. cond b Load Compute) e

price_of : (load : Option ℕ) (compute : ℕ) (needed : Bool) → cost_of (job_of load compute needed) (mark_of load compute needed) ≡ cost_to load compute needed
unfolding job_of mark_of cost_to
price_of load compute false = refl
price_of None compute true = refl
price_of (Some load) compute true =
    let C : Mark → ℕ = cost_of (job_of (Some load) compute true) in
    ⊎_elim
    (λ e. let le = leb-true load compute e in ap C (loaded_where load compute e) ∙ (omega arith))
    (λ e. let lt = leb-false load compute e in ap C (computed_where load compute e) ∙ (omega arith))
    (either (leb load compute))

price-le-load : (load : Option ℕ) (compute : ℕ) (needed : Bool) (most : ℕ) → load ≡ Some most → cost_to load compute needed ≤ most
unfolding cost_to
price-le-load load compute false most e = omega arith
price-le-load None compute true most e = absurd (cc)
price-le-load (Some load) compute true most e = let same : load ≡ most = cc in omega arith

price-le-compute : (load : Option ℕ) (compute : ℕ) (needed : Bool) → cost_to load compute needed ≤ compute
unfolding cost_to
price-le-compute load compute false = omega arith
price-le-compute None compute true = omega arith
price-le-compute (Some load) compute true = omega arith

no_more : (marks : List Mark) (load : Option ℕ) (compute : ℕ) (needed : Bool) (m : Mark) → IsAllowed marks (job_of load compute needed) m → cost_of (job_of load compute needed) m ≤ cost_to load compute needed → (mark_of load compute needed ≡ Compute → m ≡ Compute) × (mark_of load compute needed ≢ Prune → m ≢ Prune)
unfolding job_of mark_of cost_to
no_more marks load compute false m allowed low = ((λ e. let P : Prune ≡ Compute = e in absurd (cc)), (λ kept. absurd (kept refl)))
no_more marks load compute true Prune allowed low = absurd (true≢false allowed)
no_more marks load compute true Compute allowed low = ((λ e. refl), (λ kept e. let P : Compute ≡ Prune = e in absurd (cc)))
no_more marks None compute true Load allowed low = let P : false ≡ true = allowed in absurd (true≢false (sym P))
no_more marks (Some load) compute true Load allowed low = (
  (λ e. ⊎_elim
      (λ le. let P : Load ≡ Compute = sym (loaded_where load compute le) ∙ e in absurd (cc))
      (λ gt. let lt = leb-false load compute gt in absurd (omega arith))
      (either (leb load compute))),
  (λ kept e. let P : Load ≡ Prune = e in absurd (cc)),
)

not_charged : (load : Option ℕ) (compute : ℕ) (needed : Bool) → needed ≡ false → cost_to load compute needed ≡ 0
unfolding cost_to
not_charged load compute false e = refl
not_charged load compute true e = absurd (true≢false e)

-- what is charged and passed at a vertex

charged : (graph : List Vertex) (amounts : List ℕ) (i : ℕ) → amounts ≡ map charge graph → i < length graph → get_or amounts i 0 ≡ charge (vertex graph i)
charged graph amounts i e h = ap (λ xs. get_or xs i 0) e ∙ get_or-map charge graph i no_vertex 0 h

passes_are : (graph : List Vertex) (charges : Charges) (i : ℕ) → AreChargesApart graph charges → i < length graph → passes charges i ≡ no_passes (vertex graph i)
passes_are graph charges i c h = ap (λ xs. get_or xs i []) c.passing ∙ get_or-map no_passes graph i no_vertex [] h

sum_of_none : (xs : List ℕ) → sum (map (λ x. 0) xs) ≡ 0
sum_of_none [] = refl
sum_of_none (x ∷ xs) = sum_of_none xs

passes_none : (graph : List Vertex) (charges : Charges) (i : ℕ) → AreChargesApart graph charges → i < length graph → sum (passes charges i) ≡ 0
passes_none graph charges i c h = ap sum (passes_are graph charges i c h) ∙ sum_of_none (vertex graph i).parents

counted_apart : (graph : List Vertex) (charges : Charges) → AreChargesApart graph charges → IsCounted graph charges
counted_apart graph charges c = record {
  enters = ap length c.enter ∙ length-map graph charge;
  throughs = ap length c.through ∙ length-map graph charge;
  pays = ap length c.pay ∙ length-map graph charge;
  passing = ap length c.passing ∙ length-map graph no_passes;
  each_pass = λ i h. ap length (passes_are graph charges i c h) ∙ length-map (vertex graph i).parents (λ x. 0);
}

zeros : List ℕ → List ℕ
zeros xs = map (λ x. 0) xs

none_at : (xs : List ℕ) (k : ℕ) → get_or (zeros xs) k 0 ≡ 0
unfolding zeros
none_at [] k = refl
none_at (x ∷ xs) zero = refl
none_at (x ∷ xs) (suc k) = none_at xs k

same_either : (b : Bool) (n : ℕ) → n ≡ 0 → cond b n 0 ≡ 0
same_either true n e = e
same_either false n e = refl

passed_none : (graph : List Vertex) (charges : Charges) (i p : ℕ) → AreChargesApart graph charges → i < length graph → passed_to p (vertex graph i).parents (passes charges i) ≡ 0
unfolding zeros
passed_none graph charges i p c h =
    let parents : List ℕ = (vertex graph i).parents in
    sum_below_same (length parents) (λ k. cond (eqb (get_or parents k 0) p) (get_or (passes charges i) k 0) 0) (λ k. 0)
    (λ k hk. same_either (eqb (get_or parents k 0) p) (get_or (passes charges i) k 0) (ap (λ xs. get_or xs k 0) (passes_are graph charges i c h) ∙ none_at parents k))
    ∙ sum_below-zero (length parents)

received_none : (graph : List Vertex) (charges : Charges) (p : ℕ) → AreChargesApart graph charges → received graph charges p ≡ 0
received_none graph charges p c =
    sum_below_same (length graph) (λ i. passed_to p (vertex graph i).parents (passes charges i)) (λ i. 0) (λ i hi. passed_none graph charges i p c hi)
    ∙ sum_below-zero (length graph)

fair_at : (graph : List Vertex) (charges : Charges) (i : ℕ) → AreChargesApart graph charges → i < length graph → IsFair graph charges i
unfolding cost_to
fair_at graph charges i c h =
    let job : Vertex = vertex graph i in
    let enter = charged graph charges.enter i c.enter h in
    let through = charged graph charges.through i c.through h in
    let pay = charged graph charges.pay i c.pay h in
    let passed = passes_none graph charges i c h in
    let got = received_none graph charges i c in
    let most = price-le-compute job.load job.compute job.needed in
    record {
      entering = λ e. enter ∙ not_charged job.load job.compute job.needed e;
      loading = λ most e. let low = price-le-load job.load job.compute job.needed most e in omega arith;
      paying = omega arith;
      coming_in = omega arith;
      going_out = omega arith;
    }

fair_apart : (graph : List Vertex) (charges : Charges) → AreChargesApart graph charges → AreFair graph charges
fair_apart graph charges c = record { counted = counted_apart graph charges c; fair = λ i h. fair_at graph charges i c h }

-- which vertices are computed

free_is_not_computed : (load : Option ℕ) (compute : ℕ) (needed : Bool) → load ≡ Some 0 → mark_of load compute needed ≢ Compute
unfolding mark_of
free_is_not_computed load compute false free e = let P : Prune ≡ Compute = e in absurd (cc)
free_is_not_computed None compute true free e = absurd (cc)
free_is_not_computed (Some load) compute true free e =
    let zero_is : load ≡ 0 = cc in
    ⊎_elim
    (λ le. let P : Load ≡ Compute = sym (loaded_where load compute le) ∙ e in absurd (cc))
    (λ gt. let lt = leb-false load compute gt in absurd (omega arith))
    (either (leb load compute))

pub computed_is_costly : (job : Vertex) → alone job ≡ Compute → ¬ IsFree job
unfolding mark_of
computed_is_costly job e free = free_is_not_computed job.load job.compute job.needed free e

-- the parents of what is computed are free
pub parent_is_free : (graph : List Vertex) (j i : ℕ) → AreApart graph → j < length graph → alone (vertex graph j) ≡ Compute → Contains (vertex graph j).parents i → IsFree (vertex graph i)
parent_is_free graph j i apart hj computed there =
    All-contains (λ p. IsFree (vertex graph p)) (vertex graph j).parents i ((apart j no_vertex hj).free_parents computed) there

pub computes_or_not : (m : Mark) → (m ≡ Compute) ⊎ (m ≢ Compute)
computes_or_not Load = inr (λ e. cc)
computes_or_not Compute = inl refl
computes_or_not Prune = inr (λ e. cc)

-- a number below m with this place, or none
found : (m : ℕ) (f : ℕ → ℕ) (p : ℕ) → ((a : ℕ) × (a < m) × (f a ≡ p)) ⊎ ((a : ℕ) → a < m → f a ≢ p)
found zero f p = inr (λ a h. absurd (omega arith))
found (suc m) f p =
    ⊎_elim
    (λ e. inl (m, omega arith, e))
    (λ ne. ⊎_elim
    (λ some. inl (some.0, (let h = some.1 in omega arith), some.2))
    (λ none. inr (λ a h. ⊎_elim (λ lt. none a lt) (λ e same. ne (ap f (sym e) ∙ same)) (below_or_last m a h)))
    (found m f p))
    (cases_eq (f m) p)

-- a number is among these, or not
pub contains_or_not : (xs : List ℕ) (x : ℕ) → Contains xs x ⊎ ¬ Contains xs x
contains_or_not xs x =
    ⊎_elim
    (λ (some : (k : ℕ) × (k < length xs) × (get_or xs k 0 ≡ x)). inl (some.0, some.1, get_or_default xs some.0 x 0 some.1 ∙ some.2))
    (λ none. inr (λ (there : Contains xs x). none there.0 there.1 (get_or_default xs there.0 0 x there.1 ∙ there.2)))
    (found (length xs) (λ k. get_or xs k 0) x)

-- a computed vertex below n that has this parent
record Computing (graph : List Vertex) (n i : ℕ) : Type 0 where
  job : ℕ
  below : job < n
  computed : alone (vertex graph job) ≡ Compute
  there : Contains (vertex graph job).parents i

computing : (graph : List Vertex) (n i : ℕ) → Computing graph n i ⊎ ((j : ℕ) → j < n → alone (vertex graph j) ≡ Compute → ¬ Contains (vertex graph j).parents i)
computing graph zero i = inr (λ j h. absurd (omega arith))
computing graph (suc n) i =
    let before : ((j : ℕ) → j < n → alone (vertex graph j) ≡ Compute → ¬ Contains (vertex graph j).parents i) → ((alone (vertex graph n) ≡ Compute) → ¬ Contains (vertex graph n).parents i) → (j : ℕ) → j < suc n → alone (vertex graph j) ≡ Compute → ¬ Contains (vertex graph j).parents i =
    λ none last j h. ⊎_elim
    (λ lt. none j lt)
    (λ (e : j ≡ n). let P : ℕ → Type 0 = λ k. alone (vertex graph k) ≡ Compute → ¬ Contains (vertex graph k).parents i in subst P (sym e) last)
    (below_or_last n j h)
    in
    ⊎_elim
    (λ (some : Computing graph n i). inl (record { job = some.job; below = (let h = some.below in omega arith); computed = some.computed; there = some.there }))
    (λ none. ⊎_elim
    (λ e. ⊎_elim
    (λ there. inl (record { job = n; below = omega arith; computed = e; there = there }))
    (λ gone. inr (before none (λ _. gone)))
    (contains_or_not (vertex graph n).parents i))
    (λ ne. inr (before none (λ e. absurd (ne e))))
    (computes_or_not (alone (vertex graph n))))
    (computing graph n i)

costly_mark : (graph : List Vertex) (marks : List Mark) (i : ℕ) → AreApart graph → AreMarkedApart graph marks (length graph) → i < length graph → (¬ IsFree (vertex graph i)) → mark marks i ≡ alone (vertex graph i)
costly_mark graph marks i apart marked hi dear =
    marked.others i hi (λ j hj computed there. dear (parent_is_free graph j i apart hj computed there))

-- free vertices

free_charge : (load : Option ℕ) (compute : ℕ) (needed : Bool) → load ≡ Some 0 → cost_to load compute needed ≡ 0
unfolding cost_to
free_charge load compute false free = refl
free_charge None compute true free = absurd (cc)
free_charge (Some load) compute true free = let zero_is : load ≡ 0 = cc in omega arith

pub free_charged : (job : Vertex) → IsFree job → charge job ≡ 0
unfolding cost_to
free_charged job free = free_charge job.load job.compute job.needed free

-- the plan is valid, and costs what is charged

free_or_costly : (load : Option ℕ) → (load ≡ Some 0) ⊎ (load ≢ Some 0)
free_or_costly None = inr (λ e. cc)
free_or_costly (Some zero) = inl refl
free_or_costly (Some (suc n)) = inr (λ e. let P : suc n ≡ 0 = cc in absurd (omega arith))

-- the mark of a free vertex: that by itself, or it is loaded for a computed one
free_as : (graph : List Vertex) (marks : List Mark) (i : ℕ) → AreMarkedApart graph marks (length graph) → i < length graph → (mark marks i ≡ alone (vertex graph i)) ⊎ (mark marks i ≡ Load)
free_as graph marks i marked hi =
    ⊎_elim
    (λ (some : Computing graph (length graph) i). inr (marked.loaded some.job some.below some.computed i some.there))
    (λ none. inl (marked.others i hi none))
    (computing graph (length graph) i)

-- what is computed has its parents there
allowed_as : (marks : List Mark) (load : Option ℕ) (compute : ℕ) (parents : List ℕ) (needed : Bool) → (mark_of load compute needed ≡ Compute → All (λ parent. mark marks parent ≢ Prune) parents) → IsAllowed marks (record { load = load; compute = compute; parents = parents; needed = needed }) (mark_of load compute needed)
unfolding mark_of
allowed_as marks load compute parents false there = refl
allowed_as marks None compute parents true there = there refl
allowed_as marks (Some load) compute parents true there =
    let P : Mark → Type 0 = IsAllowed marks (record { load = Some load; compute = compute; parents = parents; needed = true }) in
    ⊎_elim
    (λ e. subst P (sym (loaded_where load compute e)) refl)
    (λ e. subst P (sym (computed_where load compute e)) (there (computed_where load compute e)))
    (either (leb load compute))

loadable : (o : Option ℕ) → o ≡ Some 0 → IsSome o
loadable None e = absurd (cc)
loadable (Some x) e = refl

allowed_at : (graph : List Vertex) (marks : List Mark) (i : ℕ) → AreApart graph → AreMarkedApart graph marks (length graph) → i < length graph → IsAllowed marks (vertex graph i) (mark marks i)
unfolding mark_of
allowed_at graph marks i apart marked hi =
    let job : Vertex = vertex graph i in
    let P : Mark → Type 0 = IsAllowed marks job in
    let own : P (alone job) = allowed_as marks job.load job.compute job.parents job.needed
    (λ computed k d hk. λ pruned. let loaded : mark marks (get_or job.parents k d) ≡ Load = marked.loaded i hi computed (get_or job.parents k d) (All-contains_itself job.parents k d hk) in let Q : Load ≡ Prune = sym loaded ∙ pruned in absurd (cc))
    in
    ⊎_elim
    (λ (e : mark marks i ≡ alone job). subst P (sym e) own)
    (λ (e : mark marks i ≡ Load). ⊎_elim
    (λ free. subst P (sym e) (loadable job.load free))
    (λ dear. subst P (sym (costly_mark graph marks i apart marked hi dear)) own)
    (free_or_costly job.load))
    (free_as graph marks i marked hi)

valid_apart : (graph : List Vertex) (marks : List Mark) → AreApart graph → AreMarkedApart graph marks (length graph) → IsValid graph marks
valid_apart graph marks apart marked = record { one_each = marked.count; allowed = λ i hi. allowed_at graph marks i apart marked hi }

cost_as : (load : Option ℕ) (compute : ℕ) (parents : List ℕ) (needed : Bool) (m : Mark) → cost_of (record { load = load; compute = compute; parents = parents; needed = needed }) m ≡ cost_of (job_of load compute needed) m
unfolding job_of
cost_as load compute parents needed Load = refl
cost_as load compute parents needed Compute = refl
cost_as load compute parents needed Prune = refl

free_cost : (load : Option ℕ) (compute : ℕ) (needed : Bool) (m : Mark) → load ≡ Some 0 → (m ≡ mark_of load compute needed) ⊎ (m ≡ Load) → cost_of (job_of load compute needed) m ≡ 0
unfolding job_of
free_cost load compute needed Load free is = ap (λ (o : Option ℕ). unwrap_or o 0) free
free_cost load compute needed Compute free is = ⊎_elim (λ e. absurd (free_is_not_computed load compute needed free (sym e))) (λ e. absurd (cc)) is
free_cost load compute needed Prune free is = refl

cost_at : (graph : List Vertex) (marks : List Mark) (i : ℕ) → AreApart graph → AreMarkedApart graph marks (length graph) → i < length graph → cost_of (vertex graph i) (mark marks i) ≡ charge (vertex graph i)
unfolding mark_of cost_to
cost_at graph marks i apart marked hi =
    let job : Vertex = vertex graph i in
    cost_as job.load job.compute job.parents job.needed (mark marks i) ∙ ⊎_elim
    (λ free. free_cost job.load job.compute job.needed (mark marks i) free (free_as graph marks i marked hi) ∙ sym (free_charge job.load job.compute job.needed free))
    (λ dear. ap (cost_of (job_of job.load job.compute job.needed)) (costly_mark graph marks i apart marked hi dear) ∙ price_of job.load job.compute job.needed)
    (free_or_costly job.load)

charged_in_all : (graph : List Vertex) (charges : Charges) → AreChargesApart graph charges → value charges ≡ sum_below (length graph) (λ i. charge (vertex graph i))
charged_in_all graph charges c =
    sum_is_below charges.enter
    ∙ ap (λ n. sum_below n (λ i. get_or charges.enter i 0)) (counted_apart graph charges c).enters
    ∙ sum_below_same (length graph) (λ i. get_or charges.enter i 0) (λ i. charge (vertex graph i)) (λ i hi. charged graph charges.enter i c.enter hi)

certified_apart : (graph : List Vertex) (marks : List Mark) (charges : Charges) → AreApart graph → AreMarkedApart graph marks (length graph) → AreChargesApart graph charges → IsCertificate graph marks charges
certified_apart graph marks charges apart marked c = record {
  valid = valid_apart graph marks apart marked;
  fair = fair_apart graph charges c;
  balanced = charged_in_all graph charges c
      ∙ sym (sum_below_same (length graph) (λ i. cost_of (vertex graph i) (mark marks i)) (λ i. charge (vertex graph i)) (λ i hi. cost_at graph marks i apart marked hi));
}

-- what another cheapest plan does

charge_least : (marks : List Mark) (load : Option ℕ) (compute : ℕ) (parents : List ℕ) (needed : Bool) (m : Mark) → IsAllowed marks (record { load = load; compute = compute; parents = parents; needed = needed }) m → cost_to load compute needed ≤ cost_of (job_of load compute needed) m
unfolding job_of cost_to
charge_least marks load compute parents false m allowed = omega arith
charge_least marks load compute parents true Prune allowed = absurd (true≢false allowed)
charge_least marks load compute parents true Compute allowed = price-le-compute load compute true
charge_least marks None compute parents true Load allowed = let P : false ≡ true = allowed in absurd (true≢false (sym P))
charge_least marks (Some load) compute parents true Load allowed = omega arith

allowed_first : (marks : List Mark) (load : Option ℕ) (compute : ℕ) (parents : List ℕ) (needed : Bool) (m : Mark) → IsAllowed marks (record { load = load; compute = compute; parents = parents; needed = needed }) m → IsAllowed marks (job_of load compute needed) m
unfolding job_of
allowed_first marks load compute parents needed Load allowed = allowed
allowed_first marks load compute parents needed Compute allowed = λ k d h. absurd (omega arith)
allowed_first marks load compute parents needed Prune allowed = allowed

charge_at_least : (graph : List Vertex) (other : List Mark) → IsValid graph other → (i : ℕ) → i < length graph → charge (vertex graph i) ≤ cost_of (vertex graph i) (mark other i)
unfolding cost_to
charge_at_least graph other valid i hi =
    let job : Vertex = vertex graph i in
    let same = cost_as job.load job.compute job.parents job.needed (mark other i) in
    let low = charge_least other job.load job.compute job.parents job.needed (mark other i) (valid.allowed i hi) in
    omega arith

-- a plan that costs no more than this one does no less at a vertex than what is done with it by itself
does_own : (graph : List Vertex) (marks other : List Mark) → AreApart graph → AreMarkedApart graph marks (length graph) → IsValid graph other → cost graph other ≤ cost graph marks → (i : ℕ) → i < length graph → (alone (vertex graph i) ≡ Compute → mark other i ≡ Compute) × (alone (vertex graph i) ≢ Prune → mark other i ≢ Prune)
unfolding mark_of cost_to
does_own graph marks other apart marked valid most i hi =
    let job : Vertex = vertex graph i in
    let own : ℕ → ℕ = λ i. charge (vertex graph i) in
    let all = sum_below_same (length graph) (λ i. cost_of (vertex graph i) (mark marks i)) own (λ i hi. cost_at graph marks i apart marked hi) in
    let here = sum_below_tight (length graph) own (λ i. cost_of (vertex graph i) (mark other i)) (charge_at_least graph other valid) (omega arith) i hi in
    let same = cost_as job.load job.compute job.parents job.needed (mark other i) in
    let least : cost_of (job_of job.load job.compute job.needed) (mark other i) ≤ cost_to job.load job.compute job.needed = omega arith in
    no_more other job.load job.compute job.needed (mark other i) (allowed_first other job.load job.compute job.parents job.needed (mark other i) (valid.allowed i hi)) least

-- what is kept is kept for itself, or for a vertex that the other plan computes too
kept_too : (graph : List Vertex) (marks other : List Mark) → AreApart graph → AreMarkedApart graph marks (length graph) → IsValid graph other → cost graph other ≤ cost graph marks → (i : ℕ) → i < length graph → mark marks i ≢ Prune → mark other i ≢ Prune
kept_too graph marks other apart marked valid most i hi kept =
    ⊎_elim
    (λ (some : Computing graph (length graph) i).
    let computes : mark other some.job ≡ Compute = (does_own graph marks other apart marked valid most some.job some.below).0 some.computed in
    let P : Mark → Type 0 = IsAllowed other (vertex graph some.job) in
    let there : All (λ parent. mark other parent ≢ Prune) (vertex graph some.job).parents = subst P computes (valid.allowed some.job some.below) in
    All-contains (λ p. mark other p ≢ Prune) (vertex graph some.job).parents i there some.there)
    (λ none.
    let here : mark marks i ≡ alone (vertex graph i) = marked.others i hi none in
    (does_own graph marks other apart marked valid most i hi).1 (λ pruned. kept (here ∙ pruned)))
    (computing graph (length graph) i)

computed_too : (graph : List Vertex) (marks other : List Mark) → AreApart graph → AreMarkedApart graph marks (length graph) → IsValid graph other → cost graph other ≤ cost graph marks → (i : ℕ) → i < length graph → mark marks i ≡ Compute → mark other i ≡ Compute
computed_too graph marks other apart marked valid most i hi computed =
    ⊎_elim
    (λ (e : mark marks i ≡ alone (vertex graph i)). (does_own graph marks other apart marked valid most i hi).0 (sym e ∙ computed))
    (λ (e : mark marks i ≡ Load). let P : Load ≡ Compute = sym e ∙ computed in absurd (cc))
    (free_as graph marks i marked hi)

pub apart_is_planned : (graph : List Vertex) (marks : List Mark) (charges : Charges) → IsGraph graph → AreApart graph → AreMarkedApart graph marks (length graph) → AreChargesApart graph charges → IsLeast graph marks × IsCertificate graph marks charges
apart_is_planned graph marks charges good apart marked c =
    let certified = certified_apart graph marks charges apart marked c in (
      record {
        cheapest = certificate_is_cheapest graph marks charges good certified;
        least = λ other low.
            let most = low.cheapest marks certified.valid in
            record {
              computes = λ i hi. computed_too graph marks other apart marked low.valid most i hi;
              keeps = λ i hi. kept_too graph marks other apart marked low.valid most i hi;
            };
      },
      certified,
    )

-- the same, of lists that are those
pub planned_apart : (graph seen : List Vertex) (marks made : List Mark) (charges : Charges) → seen ≡ graph → made ≡ marks → IsGraph graph → AreApart seen → AreMarkedApart seen marks (length seen) → AreChargesApart seen charges → IsLeast graph made × IsCertificate graph made charges
planned_apart graph seen marks made charges eg em good apart marked c =
    let P : List Vertex → Type 0 = λ g. AreApart g × AreMarkedApart g marks (length g) × AreChargesApart g charges in
    let all : P graph = subst P eg (apart, marked, c) in
    let Q : List Mark → Type 0 = λ m. IsLeast graph m × IsCertificate graph m charges in
    subst Q (sym em) (apart_is_planned graph marks charges good all.0 all.1 all.2)
