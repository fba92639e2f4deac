-- A vertex that becomes free, among vertices that stand apart.
use Rattle.std.proofs.Common.{◌≡◌, ◌≢◌, ℕ, ◌+◌, ◌-◌, ◌<◌, ◌≤◌, Bool, List, length, get_or, set, map, sum, sum_by, Contains, subst, sym, refl, ap, ◌∙◌, ⊎_elim, arith, get_or-set_same, get_or-set_other}
use Rattle.std.proofs.Math.Seq.{map-set_same}
use Rattle.std.proofs.lemmas.Bool.{cases_eq}
use Rattle.std.proofs.lemmas.List.Sums.{sum_by_from, sum_by-set}
use Rattle.std.proofs.lemmas.List.{length-map, length-set, map-set, get_or_default}
use Rattle.plan_checker.specs.declared.vertex.Vertex.{Vertex}
use Rattle.plan_checker.specs.declared.plan.Mark.{Mark}
use Rattle.plan_checker.specs.declared.plan.Mark.TheVariants.{Compute}
use Rattle.plan_checker.specs.declared.plan.Plan.{Plan}
use Rattle.plan_checker.specs.declared.charges.Charges.{Charges}
use Rattle.plan_checker.specs.Graph.{vertex, no_vertex, IsGraph}
use Rattle.plan_checker.specs.Plan.{mark, cost}
use Rattle.plan_keeper.specs.declared.planned.Planned.{Planned}
use Rattle.plan_keeper.specs.Free.{IsFree}
use Rattle.plan_keeper.specs.Apart.{StandsApart, AreApart, alone, charge, no_passes, AreMarkedApart, AreChargesApart}
use Rattle.plan_keeper.specs.Kept.{IsKeptApart, freed, IsLeft, IsMarkApart, IsRemarked, uncharged}
use Rattle.plan_keeper.proofs.Alone.{apart_is_planned, computed_is_costly, computes_or_not, contains_or_not, free_charged, parent_is_free}
use Rattle.plan_keeper.proofs.Remarked.{all_have, each_has}

-- the vertices after the change
abbrev after : List Vertex → ℕ → ℕ → Bool → List Vertex
after graph number compute needed = set graph number (freed (vertex graph number) compute needed)

changed : (graph : List Vertex) (number compute : ℕ) (needed : Bool) → number < length graph → vertex (after graph number compute needed) number ≡ freed (vertex graph number) compute needed
changed graph number compute needed h = get_or-set_same graph number (freed (vertex graph number) compute needed) no_vertex h

unchanged : (graph : List Vertex) (number compute : ℕ) (needed : Bool) (i : ℕ) → i ≢ number → vertex (after graph number compute needed) i ≡ vertex graph i
unchanged graph number compute needed i ne = get_or-set_other graph number i (freed (vertex graph number) compute needed) no_vertex ne

free_stays : (graph : List Vertex) (number compute : ℕ) (needed : Bool) → number < length graph → (p : ℕ) → IsFree (vertex graph p) → IsFree (vertex (after graph number compute needed) p)
free_stays graph number compute needed h p free =
    let P : ℕ → Type 0 = λ q. IsFree (vertex (after graph number compute needed) q) in
    ⊎_elim
    (λ eq. subst P (sym eq) (subst IsFree (sym (changed graph number compute needed h)) refl))
    (λ ne. subst IsFree (sym (unchanged graph number compute needed p ne)) free)
    (cases_eq p number)

freed_apart : (graph : List Vertex) (number compute : ℕ) (needed : Bool) → number < length graph → AreApart graph → AreApart (after graph number compute needed)
freed_apart graph number compute needed h apart i d hi =
    let job : Vertex = freed (vertex graph number) compute needed in
    let count = length-set graph number job in
    let P : Vertex → Type 0 = StandsApart (after graph number compute needed) in
    let same = get_or_default (after graph number compute needed) i no_vertex d hi in
    let Q : ℕ → Type 0 = λ k. P (vertex (after graph number compute needed) k) in
    subst P same (⊎_elim
    (λ eq. subst Q (sym eq) (subst P (sym (changed graph number compute needed h)) (record { free_parents = λ computed. absurd (computed_is_costly job computed refl) })))
    (λ ne. subst P (sym (unchanged graph number compute needed i ne)) (record {
      free_parents = λ computed k e hk. free_stays graph number compute needed h _ ((apart i no_vertex (omega arith)).free_parents computed k e hk);
    }))
    (cases_eq i number))

-- what is computed after the change was computed before it
was_computed : (graph : List Vertex) (number compute : ℕ) (needed : Bool) → number < length graph → (j : ℕ) → alone (vertex (after graph number compute needed) j) ≡ Compute → j ≢ number
was_computed graph number compute needed h j computed eq =
    let P : ℕ → Type 0 = λ k. alone (vertex (after graph number compute needed) k) ≡ Compute in
    let Q : Vertex → Type 0 = λ job. alone job ≡ Compute in
    computed_is_costly (freed (vertex graph number) compute needed) (subst Q (changed graph number compute needed h) (subst P eq computed)) refl

-- a vertex that is marked by itself as it was, and is no parent of what was computed, has its mark
stays_apart : (graph : List Vertex) (number compute : ℕ) (needed : Bool) → number < length graph → (i : ℕ) (its : Mark) → alone (vertex graph i) ≡ alone (vertex (after graph number compute needed) i) → (alone (vertex graph number) ≡ Compute → ¬ Contains (vertex graph number).parents i) → IsMarkApart graph i its → IsMarkApart (after graph number compute needed) i its
stays_apart graph number compute needed h i its own gone was =
    let count = length-set graph number (freed (vertex graph number) compute needed) in
    let same : (j : ℕ) → j ≢ number → vertex (after graph number compute needed) j ≡ vertex graph j = unchanged graph number compute needed in
    let Computes : Vertex → Type 0 = λ job. alone job ≡ Compute in
    let Has : Vertex → Type 0 = λ job. Contains job.parents i in
    record {
      loaded = λ j hj computed there.
          let other = was_computed graph number compute needed h j computed in
          was.loaded j (omega arith) (subst Computes (same j other) computed) (subst Has (same j other) there);
      others = λ none.
          was.others (λ j hj computed there. ⊎_elim
          (λ (eq : j ≡ number). let P : ℕ → Type 0 = λ k. Has (vertex graph k) in let Q : ℕ → Type 0 = λ k. Computes (vertex graph k) in gone (subst Q eq computed) (subst P eq there))
          (λ other. none j (omega arith) (subst Computes (sym (same j other)) computed) (subst Has (sym (same j other)) there))
          (cases_eq j number))
          ∙ own;
    }

freed_marked : (graph : List Vertex) (number compute : ℕ) (needed : Bool) (marks new : List Mark) → number < length graph → IsGraph (after graph number compute needed) → AreMarkedApart graph marks (length graph) → IsRemarked (after graph number compute needed) marks new number (alone (vertex graph number)) → AreMarkedApart (after graph number compute needed) new (length (after graph number compute needed))
freed_marked graph number compute needed marks new h good marked re =
    let now : List Vertex = after graph number compute needed in
    let count = length-set graph number (freed (vertex graph number) compute needed) in
    let parents : (vertex now number).parents ≡ (vertex graph number).parents = ap (λ job. job.parents) (changed graph number compute needed h) in
    let P : ℕ → Type 0 = λ k. IsMarkApart now k (mark new k) in
    let stays : (i : ℕ) → i < length now → alone (vertex graph i) ≡ alone (vertex now i) → (alone (vertex graph number) ≡ Compute → ¬ Contains (vertex graph number).parents i) → P i =
    λ i hi own gone. re.stays i (stays_apart graph number compute needed h i (mark marks i) own gone (each_has graph marks marked i (omega arith)))
    in
    let own : (i : ℕ) → i ≢ number → alone (vertex graph i) ≡ alone (vertex now i) = λ i ne. ap alone (sym (unchanged graph number compute needed i ne)) in
    let made : P number = ⊎_elim
    (λ same. stays number (omega arith) same (λ computed. absurd (was_computed graph number compute needed h number (sym same ∙ computed) refl)))
    (λ here. here)
    re.made
    in
    let each : (i : ℕ) → i < length now → P i =
    λ i hi. ⊎_elim
    (λ eq. subst P (sym eq) made)
    (λ ne. ⊎_elim
    (λ computed. ⊎_elim
    (λ there. let Q : List ℕ → Type 0 = λ xs. Contains xs i in re.parents computed i (subst Q (sym parents) there))
    (λ gone. stays i hi (own i ne) (λ _. gone))
    (contains_or_not (vertex graph number).parents i))
    (λ spare. stays i hi (own i ne) (λ computed. absurd (spare computed)))
    (computes_or_not (alone (vertex graph number))))
    (cases_eq i number)
    in
    all_have now new good (re.count ∙ marked.count ∙ sym count) each

-- what was done with a vertex that was read, by itself
pub was_alone : (graph seen : List Vertex) (number : ℕ) (job : Vertex) (was : Mark) → number < length graph → seen ≡ graph → job ≡ get_or seen number job → was ≡ alone job → was ≡ alone (vertex graph number)
was_alone graph seen number job was h es read e =
    e ∙ ap alone (read ∙ ap (λ xs. get_or xs number job) es ∙ get_or_default graph number job no_vertex h)

-- no child of what was computed is computed
pub left_after : (graph now : List Vertex) (number compute : ℕ) (needed : Bool) (was : Mark) → number < length graph → AreApart graph → was ≡ alone (vertex graph number) → now ≡ after graph number compute needed → was ≡ Compute → IsLeft now number
left_after graph now number compute needed was h apart e en is =
    let dear : ¬ IsFree (vertex graph number) = computed_is_costly (vertex graph number) (sym e ∙ is) in
    let count = length-set graph number (freed (vertex graph number) compute needed) in
    let Computes : Vertex → Type 0 = λ v. alone v ≡ Compute in
    let Has : Vertex → Type 0 = λ v. Contains v.parents number in
    let P : Vertex → Type 0 = λ v. alone v ≡ Compute → ¬ Contains v.parents number in
    let left : IsLeft (after graph number compute needed) number =
    λ j d hj. subst P (get_or_default (after graph number compute needed) j no_vertex d hj) (λ computed there.
    let other = was_computed graph number compute needed h j computed in
    let same = unchanged graph number compute needed j other in
    dear (parent_is_free graph j number apart (omega arith) (subst Computes same computed) (subst Has same there)))
    in
    subst (λ g. IsLeft g number) (sym en) left

amounts_without : (graph : List Vertex) (number compute : ℕ) (needed : Bool) (amounts : List ℕ) → amounts ≡ map charge graph → set amounts number 0 ≡ map charge (after graph number compute needed)
amounts_without graph number compute needed amounts e =
    let job : Vertex = freed (vertex graph number) compute needed in
    ap (λ xs. set xs number 0) e ∙ ap (λ y. set (map charge graph) number y) (sym (free_charged job refl)) ∙ sym (map-set charge graph number job)

freed_charged : (graph : List Vertex) (number compute : ℕ) (needed : Bool) (charges : Charges) → AreChargesApart graph charges → AreChargesApart (after graph number compute needed) (uncharged charges number)
freed_charged graph number compute needed charges c = record {
  enter = amounts_without graph number compute needed charges.enter c.enter;
  through = amounts_without graph number compute needed charges.through c.through;
  pay = amounts_without graph number compute needed charges.pay c.pay;
  passing = c.passing ∙ sym (map-set_same no_passes graph number (freed (vertex graph number) compute needed) no_vertex refl);
}

by_itself : (xs : List ℕ) → sum xs ≡ sum_by (λ x. x) xs
by_itself xs = let all : sum xs ≡ 0 + sum_by (λ x. x) xs = sum_by_from (λ x. x) 0 xs in omega arith

sum_without : (xs : List ℕ) (i : ℕ) → i < length xs → sum (set xs i 0) + get_or xs i 0 ≡ sum xs
sum_without xs i h =
    let change = sum_by-set (λ x. x) xs i 0 0 h in
    let was = by_itself xs in
    let now = by_itself (set xs i 0) in
    omega arith

-- what a kept plan costs is what is charged to all its vertices
pub cost_is_charged : (planned : Planned) → IsKeptApart planned → planned.cost ≡ sum planned.charges.enter
cost_is_charged planned kept =
    kept.its_cost ∙ sym (apart_is_planned planned.graph planned.plan.marks planned.charges kept.good kept.apart kept.marked kept.charged).1.balanced

is_charged : (planned : Planned) (i : ℕ) → IsKeptApart planned → i < length planned.graph → i < length planned.charges.enter
is_charged planned i kept h =
    let count : length planned.charges.enter ≡ length planned.graph = ap length kept.charged.enter ∙ length-map planned.graph charge in
    omega arith

-- a vertex is charged no more than all cost
pub charged-le-cost : (planned : Planned) (i : ℕ) → IsKeptApart planned → i < length planned.graph → get_or planned.charges.enter i 0 ≤ planned.cost
charged-le-cost planned i kept h =
    let all = cost_is_charged planned kept in
    let rest = sum_without planned.charges.enter i (is_charged planned i kept h) in
    omega arith

pub freed_kept : (old : Planned) (number compute : ℕ) (needed : Bool) (graph : List Vertex) (seen : List Vertex) (plan : Plan) (charges : Charges) (now : ℕ) (was : Mark) → number < length old.graph → IsKeptApart old → graph ≡ after old.graph number compute needed → IsGraph graph → seen ≡ graph → IsRemarked seen old.plan.marks plan.marks number was → was ≡ alone (vertex old.graph number) → charges ≡ uncharged old.charges number → now ≡ old.cost - get_or old.charges.enter number 0 → IsKeptApart (record { graph = graph; plan = plan; charges = charges; cost = now })
freed_kept old number compute needed graph seen plan charges now was h kept eg good es re ew ec en =
    let graph_was : List Vertex = old.graph in
    let G : List Vertex → Type 0 = λ g. IsGraph g × IsRemarked g old.plan.marks plan.marks number (alone (vertex graph_was number)) in
    let at : G (after graph_was number compute needed) = subst G eg (good, subst (λ g. IsRemarked g old.plan.marks plan.marks number (alone (vertex graph_was number))) es (subst (IsRemarked seen old.plan.marks plan.marks number) ew re)) in
    let apart = freed_apart graph_was number compute needed h kept.apart in
    let marked = freed_marked graph_was number compute needed old.plan.marks plan.marks h at.0 kept.marked at.1 in
    let charged = freed_charged graph_was number compute needed old.charges kept.charged in
    let balanced = (apart_is_planned (after graph_was number compute needed) plan.marks (uncharged old.charges number) at.0 apart marked charged).1.balanced in
    let all = cost_is_charged old kept in
    let rest = sum_without old.charges.enter number (is_charged old number kept h) in
    let cost_now : now ≡ cost (after graph_was number compute needed) plan.marks = omega arith in
    let P : List Vertex → Type 0 = λ g. IsKeptApart (record { graph = g; plan = plan; charges = charges; cost = now }) in
    let Q : Charges → Type 0 = λ c. IsKeptApart (record { graph = after graph_was number compute needed; plan = plan; charges = c; cost = now }) in
    subst P (sym eg) (subst Q (sym ec) (record { good = at.0; apart = apart; marked = marked; charged = charged; its_cost = cost_now }))
