-- A graph with one vertex changed, or one vertex more: it is within the limits, and its children are still listed.
use Rattle.std.proofs.Common.{◌≡◌, ℕ, zero, suc, ◌+◌, ◌<◌, ◌≤◌, List, [], ◌∷◌, ◌++◌, All, Contains, cond, eqb, length, get_or, set, sum_by, sym, refl, ap, subst, ◌∙◌, ⊎_elim, arith, get_or-set_other, get_or-set_same}
use Rattle.std.specs.Option.{ForSome}
use Rattle.std.specs.List.Sorted.{IsStrictlyIncreasing}
use Rattle.std.proofs.Math.ListN.{get_or-eq_default}
use Rattle.std.proofs.lemmas.List.{length-set, length_push, get_or_append_left, get_or_push, get_or_read}
use Rattle.std.proofs.lemmas.List.Elements.{All-same}
use Rattle.std.proofs.lemmas.Bool.{cases_eq, cases_lt, ne_eqb, cond-false}
use Rattle.plan_checker.specs.declared.vertex.Vertex.{Vertex}
use Rattle.plan_checker.specs.declared.child.Child.{Child}
use Rattle.plan_checker.specs.declared.graph.TheConstants.{MOST_ENTRIES, MOST_COST}
use Rattle.plan_checker.specs.Sums.{sum_below}
use Rattle.plan_checker.specs.Graph.{IsChild, no_vertex, vertex, entries_below, Fits, FitsAt, IsGraph}
use Rattle.plan_checker.specs.Charges.{passes, passed_to}
use Rattle.plan_checker.specs.inner.Children.{amount_from, AreChildrenBelow, AreChildren, AddsChild}
use Rattle.plan_checker.proofs.SumsBelow.{sum_below_more, sum_below_same, sum_below-zero}
use Rattle.plan_checker.proofs.ChildLists.{one_more_child}

-- a graph has at most so many entries
pub few_entries : (graph : List Vertex) → IsGraph graph → entries_below graph (length graph) ≤ MOST_ENTRIES
few_entries graph fit = few (length graph) (omega arith)
  where
    few : (n : ℕ) → n ≤ length graph → entries_below graph n ≤ MOST_ENTRIES
    few zero h = omega arith
    few (suc n) h =
        let e : n + 1 ≡ suc n = omega arith in
        let at = (fit n (omega arith)).few_entries in
        subst (λ m. entries_below graph m ≤ MOST_ENTRIES) e at

-- one vertex with other costs: the parents of each are as before
pub parents_stay : (graph : List Vertex) (number i : ℕ) (job : Vertex) → job.parents ≡ (vertex graph number).parents → number < length graph → (vertex (set graph number job) i).parents ≡ (vertex graph i).parents
parents_stay graph number i job same there =
    ⊎_elim
    (λ eq. rw eq (ap (λ v. v.parents) (get_or-set_same graph number job no_vertex there) ∙ same))
    (λ ne. ap (λ v. v.parents) (get_or-set_other graph number i job no_vertex ne))
    (cases_eq i number)

entries_stay : (graph : List Vertex) (number n : ℕ) (job : Vertex) → job.parents ≡ (vertex graph number).parents → number < length graph → entries_below (set graph number job) n ≡ entries_below graph n
entries_stay graph number n job same there =
    sum_below_same n (λ i. length (vertex (set graph number job) i).parents) (λ i. length (vertex graph i).parents) (λ i h. ap length (parents_stay graph number i job same there))

pub entries_after_set : (graph : List Vertex) (number : ℕ) (job : Vertex) → job.parents ≡ (vertex graph number).parents → number < length graph → entries_below (set graph number job) (length (set graph number job)) ≡ entries_below graph (length graph)
entries_after_set graph number job same there =
    entries_stay graph number (length (set graph number job)) job same there ∙ ap (entries_below graph) (length-set graph number job)

pub graph_after_set : (graph : List Vertex) (number : ℕ) (job : Vertex) → IsGraph graph → job.parents ≡ (vertex graph number).parents → number < length graph → ForSome job.load (λ cost. cost ≤ MOST_COST) → (1 ≤ job.compute) × (job.compute ≤ MOST_COST) → IsGraph (set graph number job)
graph_after_set graph number job fit same there load compute i h =
    let count = length-set graph number job in
    let before = fit i (omega arith) in
    let entries = entries_stay graph number (i + 1) job same there in
    let parents = parents_stay graph number i job same there in
    let few = before.few_entries in
    let vertices = before.few_vertices in
    ⊎_elim
    (λ eq.
    let now : vertex (set graph number job) i ≡ job = rw eq (get_or-set_same graph number job no_vertex there) in
    record {
      few_vertices = vertices;
      few_entries = omega arith;
      load_cost = subst (λ v. ForSome v.load (λ cost. cost ≤ MOST_COST)) (sym now) load;
      compute_cost = subst (λ v. (1 ≤ v.compute) × (v.compute ≤ MOST_COST)) (sym now) compute;
      below = subst (λ ps. All (λ parent. parent < i) ps) (sym parents) before.below;
      rising = subst (λ ps. IsStrictlyIncreasing ps) (sym parents) before.rising;
    })
    (λ ne.
    let now : vertex (set graph number job) i ≡ vertex graph i = get_or-set_other graph number i job no_vertex ne in
    record {
      few_vertices = vertices;
      few_entries = omega arith;
      load_cost = subst (λ v. ForSome v.load (λ cost. cost ≤ MOST_COST)) (sym now) before.load_cost;
      compute_cost = subst (λ v. (1 ≤ v.compute) × (v.compute ≤ MOST_COST)) (sym now) before.compute_cost;
      below = subst (λ ps. All (λ parent. parent < i) ps) (sym parents) before.below;
      rising = subst (λ ps. IsStrictlyIncreasing ps) (sym parents) before.rising;
    })
    (cases_eq i number)

pub children_after_set : (graph : List Vertex) (children : List (List Child)) (number : ℕ) (job : Vertex) → AreChildren graph children → job.parents ≡ (vertex graph number).parents → number < length graph → AreChildren (set graph number job) children
children_after_set graph children number job kept same there =
    let count = length-set graph number job in
    record {
      one_each = kept.one_each ∙ sym count;
      there = λ p k d h.
          let before = kept.there p k d h in
          let numbered = before.numbered in
          let placed = before.placed in
          let child : Child = get_or (get_or children p []) k d in
          let parents = parents_stay graph number child.vertex job same there in
          let counts = ap length parents in
          record { numbered = omega arith; placed = omega arith; of = ap (λ ps. get_or ps child.place 0) parents ∙ before.of };
      listed = λ i k hi hk.
          let P : List ℕ → Type 0 = λ ps. k < length ps → Contains (get_or children (get_or ps k 0) []) (record { vertex = i; place = k }) in
          subst P (sym (parents_stay graph number i job same there)) (λ within. kept.listed i k (omega arith) within) hk;
      sums = λ charges p below.
          kept.sums charges p (omega arith) ∙ ap (λ n. sum_below n (λ i. passed_to p (vertex graph i).parents (passes charges i))) (sym count) ∙ sum_below_same (length (set graph number job)) (λ i. passed_to p (vertex graph i).parents (passes charges i)) (λ i. passed_to p (vertex (set graph number job) i).parents (passes charges i)) (λ i h. ap (λ ps. passed_to p ps (passes charges i)) (sym (parents_stay graph number i job same there)));
    }

-- one vertex more: those before stay
entries_before : (graph : List Vertex) (job : Vertex) (n : ℕ) → n ≤ length graph → entries_below (graph ++ job ∷ []) n ≡ entries_below graph n
entries_before graph job n h =
    sum_below_same n (λ i. length (vertex (graph ++ job ∷ []) i).parents) (λ i. length (vertex graph i).parents) (λ i below. ap (λ v. length v.parents) (get_or_append_left graph (job ∷ []) no_vertex i (omega arith)))

pub entries_up_to : (graph : List Vertex) (job : Vertex) → entries_below (graph ++ job ∷ []) (length graph + 1) ≡ entries_below graph (length graph) + length job.parents
entries_up_to graph job =
    let more = sum_below_more (length graph) (λ i. length (vertex (graph ++ job ∷ []) i).parents) in
    let before = entries_before graph job (length graph) (omega arith) in
    let last = ap (λ v. length v.parents) (get_or_push graph job no_vertex (length graph) refl) in
    omega arith

pub entries_longer : (graph : List Vertex) (job : Vertex) → entries_below (graph ++ job ∷ []) (length (graph ++ job ∷ [])) ≡ entries_below graph (length graph) + length job.parents
entries_longer graph job = ap (entries_below (graph ++ job ∷ [])) (length_push graph job) ∙ entries_up_to graph job

-- the vertex fits after those of the graph
pub fits_last : (graph : List Vertex) (job : Vertex) → Fits (length graph) (entries_below graph (length graph) + length job.parents) job → FitsAt (graph ++ job ∷ []) (length graph)
fits_last graph job fits =
    let last : vertex (graph ++ job ∷ []) (length graph) ≡ job = get_or_push graph job no_vertex (length graph) refl in
    subst (λ v. Fits (length graph) (entries_below (graph ++ job ∷ []) (length graph + 1)) v) (sym last) (subst (λ n. Fits (length graph) n job) (sym (entries_up_to graph job)) fits)

pub last_fits : (graph : List Vertex) (job : Vertex) → FitsAt (graph ++ job ∷ []) (length graph) → Fits (length graph) (entries_below graph (length graph) + length job.parents) job
last_fits graph job fits =
    let last : vertex (graph ++ job ∷ []) (length graph) ≡ job = get_or_push graph job no_vertex (length graph) refl in
    subst (λ n. Fits (length graph) n job) (entries_up_to graph job) (subst (λ v. Fits (length graph) (entries_below (graph ++ job ∷ []) (length graph + 1)) v) last fits)

pub longer_graph : (graph : List Vertex) (job : Vertex) → IsGraph graph → Fits (length graph) (entries_below graph (length graph) + length job.parents) job → IsGraph (graph ++ job ∷ [])
longer_graph graph job fit fits i h =
    let count = length_push graph job in
    ⊎_elim
    (λ lt.
    let same : vertex (graph ++ job ∷ []) i ≡ vertex graph i = get_or_append_left graph (job ∷ []) no_vertex i lt in
    subst (λ v. Fits i (entries_below (graph ++ job ∷ []) (i + 1)) v) (sym same) (subst (λ n. Fits i n (vertex graph i)) (sym (entries_before graph job (i + 1) (omega arith))) (fit i lt)))
    (λ le.
    let e : length graph ≡ i = omega arith in
    subst (λ k. FitsAt (graph ++ job ∷ []) k) e (fits_last graph job fits))
    (cases_lt i (length graph))

-- nothing is passed to a number that is no parent
none_passed : (p : ℕ) (parents amounts : List ℕ) → All (λ parent. parent < p) parents → passed_to p parents amounts ≡ 0
none_passed p parents amounts below =
    sum_below_same (length parents) (λ k. cond (eqb (get_or parents k 0) p) (get_or amounts k 0) 0) (λ k. 0) (λ k h. let lt = below k 0 h in cond-false (eqb (get_or parents k 0) p) (get_or amounts k 0) 0 (ne_eqb (get_or parents k 0) p (λ e. absurd (omega arith)))) ∙ sum_below-zero (length parents)

-- an empty list more reads as none
list_stays : (children : List (List Child)) (p : ℕ) → get_or (children ++ [] ∷ []) p [] ≡ get_or children p []
list_stays children p =
    ⊎_elim
    (λ lt. get_or_append_left children ([] ∷ []) [] p lt)
    (λ le. ⊎_elim
    (λ beyond. get_or-eq_default (children ++ [] ∷ []) [] (let count = length_push children [] in omega arith) ∙ sym (get_or-eq_default children [] le))
    (λ not. let e : length children ≡ p = omega arith in get_or_push children [] [] p e ∙ sym (get_or-eq_default children [] le))
    (cases_lt (length children) p))
    (cases_lt p (length children))

-- the children below a new vertex, which has none yet
pub children_longer : (graph : List Vertex) (children : List (List Child)) (job : Vertex) → IsGraph graph → AreChildren graph children → AreChildrenBelow (graph ++ job ∷ []) (children ++ [] ∷ []) (length graph)
children_longer graph children job fit kept =
    let count = length_push graph job in
    let lists = length_push children [] in
    let each = kept.one_each in
    record {
      one_each = omega arith;
      there = λ p. All-same (IsChild (graph ++ job ∷ []) p) (get_or (children ++ [] ∷ []) p []) (get_or children p []) (list_stays children p) (λ k d h.
          let before = kept.there p k d h in
          let numbered = before.numbered in
          let placed = before.placed in
          let child : Child = get_or (get_or children p []) k d in
          let same = get_or_append_left graph (job ∷ []) no_vertex child.vertex numbered in
          let counts = ap (λ v. length v.parents) same in
          record { numbered = omega arith; placed = omega arith; of = ap (λ v. get_or v.parents child.place 0) same ∙ before.of });
      listed = λ i k hi hk.
          let one : Child = record { vertex = i; place = k } in
          let P : Vertex → Type 0 = λ v. k < length v.parents → Contains (get_or (children ++ [] ∷ []) (get_or v.parents k 0) []) one in
          let Has : List Child → Type 0 = λ xs. Contains xs one in
          subst P (sym (get_or_append_left graph (job ∷ []) no_vertex i hi)) (λ within. subst Has (sym (list_stays children (get_or (vertex graph i).parents k 0))) (kept.listed i k hi within)) hk;
      sums = λ charges p below.
          let now : sum_by (amount_from charges) (get_or (children ++ [] ∷ []) p []) ≡ sum_by (amount_from charges) (get_or children p []) = ap (sum_by (amount_from charges)) (list_stays children p) in
          let same : sum_below (length graph) (λ i. passed_to p (vertex (graph ++ job ∷ []) i).parents (passes charges i)) ≡ sum_below (length graph) (λ i. passed_to p (vertex graph i).parents (passes charges i)) = sum_below_same (length graph) (λ i. passed_to p (vertex (graph ++ job ∷ []) i).parents (passes charges i)) (λ i. passed_to p (vertex graph i).parents (passes charges i)) (λ i h. ap (λ v. passed_to p v.parents (passes charges i)) (get_or_append_left graph (job ∷ []) no_vertex i h)) in
          ⊎_elim
          (λ lt. now ∙ kept.sums charges p lt ∙ sym same)
          (λ le.
          let e : p ≡ length graph = omega arith in
          let none : sum_by (amount_from charges) (get_or children p []) ≡ 0 = ap (sum_by (amount_from charges)) (get_or-eq_default children [] (omega arith)) in
          let zero : sum_below (length graph) (λ i. passed_to p (vertex graph i).parents (passes charges i)) ≡ 0 = sum_below_same (length graph) (λ i. passed_to p (vertex graph i).parents (passes charges i)) (λ i. 0) (λ i h. none_passed p (vertex graph i).parents (passes charges i) (λ k d here. let at = (fit i h).below k d here in omega arith)) ∙ sum_below-zero (length graph) in
          now ∙ none ∙ sym zero ∙ sym same)
          (cases_lt p (length graph));
    }

-- with the new vertex among the children of its parents
pub children_with : (graph : List Vertex) (job : Vertex) (empty new : List (List Child)) (number : ℕ) (parents : List ℕ) → number ≡ length graph → parents ≡ job.parents → AreChildrenBelow (graph ++ job ∷ []) empty (length graph) → AddsChild empty new number parents (length parents) → AreChildren (graph ++ job ∷ []) new
children_with graph job empty new number parents here same kept adds =
    let count = length_push graph job in
    let last : (vertex (graph ++ job ∷ []) (length graph)).parents ≡ job.parents = ap (λ v. v.parents) (get_or_push graph job no_vertex (length graph) refl) in
    let adds_here : AddsChild empty new (length graph) parents (length parents) = subst (λ n. AddsChild empty new n parents (length parents)) here adds in
    let adds_job : AddsChild empty new (length graph) (vertex (graph ++ job ∷ []) (length graph)).parents (length (vertex (graph ++ job ∷ []) (length graph)).parents) = subst (λ ps. AddsChild empty new (length graph) ps (length ps)) (same ∙ sym last) adds_here in
    subst (λ n. AreChildrenBelow (graph ++ job ∷ []) new n) (sym count) (one_more_child (graph ++ job ∷ []) empty new (length graph) (omega arith) kept adds_job)

-- all that a graph keeps, after `set`
pub kept_after_set : (graph : List Vertex) (children : List (List Child)) (entries number : ℕ) (old job : Vertex) → IsGraph graph × AreChildren graph children × (entries ≡ entries_below graph (length graph)) → number < length graph → old ≡ get_or graph number old → job.parents ≡ old.parents → ForSome job.load (λ cost. cost ≤ MOST_COST) → (1 ≤ job.compute) × (job.compute ≤ MOST_COST) → IsGraph (set graph number job) × AreChildren (set graph number job) children × (entries ≡ entries_below (set graph number job) (length (set graph number job)))
kept_after_set graph children entries number old job kept there read stays load compute =
    let same : job.parents ≡ (vertex graph number).parents = stays ∙ ap (λ v. v.parents) (get_or_read graph number old there read no_vertex) in
    (graph_after_set graph number job kept.0 same there load compute, children_after_set graph children number job kept.1 same there, kept.2 ∙ sym (entries_after_set graph number job same there))

-- a vertex that is to follow a graph fits there
pub fits_after : (inside graph : List Vertex) (job : Vertex) → inside ≡ graph → IsGraph (graph ++ job ∷ []) → Fits (length inside) (entries_below inside (length inside) + length job.parents) job
fits_after inside graph job same fit =
    let count = length_push inside job in
    let P : List Vertex → Type 0 = λ g. IsGraph (g ++ job ∷ []) in
    last_fits inside job (subst P (sym same) fit (length inside) (omega arith))

-- so its parents are among the vertices that have lists of children
pub parents_within : (graph : List Vertex) (job : Vertex) (children lists : List (List Child)) (list : List Child) (row : List ℕ) → Fits (length graph) (entries_below graph (length graph) + length job.parents) job → AreChildren graph children → lists ≡ children ++ list ∷ [] → row ≡ job.parents → All (λ p. p < length lists) row
parents_within graph job children lists list row fits kept pushed same k d h =
    let count = ap length pushed ∙ length_push children list in
    let each = kept.one_each in
    let below = All-same (λ parent. parent < length graph) row job.parents same fits.below k d h in
    omega arith

-- all that a graph keeps, with a vertex after the others
pub kept_longer : (inside graph longer : List Vertex) (job : Vertex) (children lists new : List (List Child)) (list : List Child) (entries more number : ℕ) (row : List ℕ) → inside ≡ graph → IsGraph (graph ++ job ∷ []) → IsGraph inside × AreChildren inside children × (entries ≡ entries_below inside (length inside)) → number ≡ length inside → more ≡ length job.parents → row ≡ job.parents → list ≡ [] → lists ≡ children ++ list ∷ [] → AddsChild lists new number row (length row) → longer ≡ inside ++ job ∷ [] → IsGraph longer × AreChildren longer new × (entries + more ≡ entries_below longer (length longer))
kept_longer inside graph longer job children lists new list entries more number row same fit kept last parents row_is none pushed adds longer_is =
    let P : List Vertex → Type 0 = λ g. IsGraph g × AreChildren g new × (entries + more ≡ entries_below g (length g)) in
    let empty : lists ≡ children ++ [] ∷ [] = pushed ∙ ap (λ l. children ++ l ∷ []) none in
    let Q : List (List Child) → Type 0 = λ c. AreChildrenBelow (inside ++ job ∷ []) c (length inside) in
    let R : List Vertex → Type 0 = λ g. IsGraph (g ++ job ∷ []) in
    let sums = entries_longer inside job in
    let now = kept.2 in
    subst P (sym longer_is) (
      subst R (sym same) fit,
      children_with inside job lists new number row last row_is (subst Q (sym empty) (children_longer inside children job kept.0 kept.1)) adds,
      omega arith,
    )

-- a vertex that does not fit after a graph
pub refused_after : (inside graph : List Vertex) (job : Vertex) (entries number : ℕ) → inside ≡ graph → entries ≡ entries_below inside (length inside) → number ≡ length inside → ¬ Fits number (entries + length job.parents) job → (number ≡ length graph) × ¬ FitsAt (graph ++ job ∷ []) number
refused_after inside graph job entries number same count last unfit =
    let P : List Vertex → Type 0 = λ g. (number ≡ length g) × ¬ FitsAt (g ++ job ∷ []) number in
    let Q : ℕ → Type 0 = λ n. ¬ FitsAt (inside ++ job ∷ []) n in
    let S : ℕ → Type 0 = λ n. Fits (length inside) (n + length job.parents) job in
    let R : ℕ → Type 0 = λ n. Fits n (entries + length job.parents) job in
    let none : ¬ FitsAt (inside ++ job ∷ []) (length inside) = λ fits. unfit (subst R (sym last) (subst S (sym count) (last_fits inside job fits))) in
    subst P same (last, subst Q (sym last) none)

-- one that fits makes a longer graph
pub graph_after : (inside graph : List Vertex) (job : Vertex) (entries number : ℕ) → inside ≡ graph → IsGraph inside → entries ≡ entries_below inside (length inside) → number ≡ length inside → Fits number (entries + length job.parents) job → IsGraph (graph ++ job ∷ [])
graph_after inside graph job entries number same fit count last fits =
    let P : List Vertex → Type 0 = λ g. IsGraph (g ++ job ∷ []) in
    let Q : ℕ → Type 0 = λ n. Fits (length inside) (n + length job.parents) job in
    let R : ℕ → Type 0 = λ n. Fits n (entries + length job.parents) job in
    subst P same (longer_graph inside job fit (subst Q count (subst R last fits)))
