-- Marks of vertices that stand apart, one vertex after the other.
use Rattle.std.proofs.Common.{◌≡◌, ◌≢◌, ℕ, suc, ◌+◌, ◌<◌, List, [], length, map, get_or, All, Contains, subst, sym, refl, ap, ◌∙◌, ⊎_elim, arith}
use Rattle.std.proofs.lemmas.List.{length-map, get_or-map, get_or_default}
use Rattle.plan_checker.specs.declared.vertex.Vertex.{Vertex}
use Rattle.plan_checker.specs.declared.plan.Mark.{Mark}
use Rattle.plan_checker.specs.declared.plan.Mark.TheVariants.{Load, Compute, Prune}
use Rattle.plan_checker.specs.Graph.{vertex, no_vertex, IsGraph}
use Rattle.plan_checker.specs.Plan.{mark}
use Rattle.plan_checker.proofs.SumsBelow.{below_or_last}
use Rattle.plan_keeper.specs.Apart.{alone, AreMarkedApart}
use Rattle.plan_keeper.specs.Loads.{LoadsAll, LoadsFor}

pub loads_for : (old new : List Mark) (numbers parents : List ℕ) → numbers ≡ parents → LoadsAll old new numbers (length numbers) → LoadsFor old new parents Compute
loads_for old new numbers parents e all =
    let P : List ℕ → Type 0 = λ xs. LoadsFor old new xs Compute in
    subst P e (record {
      count = all.count;
      loaded = λ is i there.
          let at : get_or numbers there.0 0 ≡ i = get_or_default numbers there.0 0 i there.1 ∙ there.2 in
          ap (mark new) (sym at) ∙ all.loaded there.0 there.1;
      stays = all.stays;
      others = λ i none. all.others i (λ k hk e. none refl (k, hk, get_or_default numbers k i 0 hk ∙ e));
    })

pub loads_none : (marks : List Mark) (parents : List ℕ) (its : Mark) → its ≢ Compute → LoadsFor marks marks parents its
loads_none marks parents its ne = record {
  count = refl;
  loaded = λ e. absurd (ne e);
  stays = λ i e. e;
  others = λ i none. refl;
}

-- each vertex is marked as by itself, but the parents of those of the first n that are computed are loaded
pub record IsLoadedBelow (graph : List Vertex) (marks : List Mark) (n : ℕ) : Type 0 where
  pub count : length marks ≡ length graph
  pub loaded : (j : ℕ) → j < n → alone (vertex graph j) ≡ Compute → (i : ℕ) → Contains (vertex graph j).parents i → mark marks i ≡ Load
  pub others : (i : ℕ) → i < length graph → ((j : ℕ) → j < n → alone (vertex graph j) ≡ Compute → ¬ Contains (vertex graph j).parents i) → mark marks i ≡ alone (vertex graph i)

-- each is marked as by itself, and no parents are loaded yet
pub marked_first : (graph : List Vertex) (marks : List Mark) → marks ≡ map alone graph → IsLoadedBelow graph marks 0
marked_first graph marks e = record {
  count = ap length e ∙ length-map graph alone;
  loaded = λ j hj. absurd (omega arith);
  others = λ i hi none. ap (λ ms. mark ms i) e ∙ get_or-map alone graph i no_vertex Prune hi;
}

pub marked_more : (graph : List Vertex) (marks new : List Mark) (n : ℕ) → IsLoadedBelow graph marks n → LoadsFor marks new (vertex graph n).parents (alone (vertex graph n)) → IsLoadedBelow graph new (n + 1)
marked_more graph marks new n m l =
    let is_loaded : (j : ℕ) → j < suc n → alone (vertex graph j) ≡ Compute → (i : ℕ) → Contains (vertex graph j).parents i → mark new i ≡ Load =
    λ j hj computed i there. ⊎_elim
    (λ lt. l.stays i (m.loaded j lt computed i there))
    (λ (is : j ≡ n).
    let P : ℕ → Type 0 = λ k. alone (vertex graph k) ≡ Compute in
    let Q : ℕ → Type 0 = λ k. Contains (vertex graph k).parents i in
    l.loaded (subst P is computed) i (subst Q is there))
    (below_or_last n j hj)
    in
    record {
      count = l.count ∙ m.count;
      loaded = λ j hj. is_loaded j (omega arith);
      others = λ i hi none. l.others i (none n (omega arith)) ∙ m.others i hi (λ j hj. none j (omega arith));
    }

-- the same, of a vertex that was read
pub marked_at : (graph : List Vertex) (marks new : List Mark) (n : ℕ) (job : Vertex) → job ≡ vertex graph n → IsLoadedBelow graph marks n → LoadsFor marks new job.parents (alone job) → IsLoadedBelow graph new (n + 1)
marked_at graph marks new n job read m l =
    let P : Vertex → Type 0 = λ v. LoadsFor marks new v.parents (alone v) in
    marked_more graph marks new n m (subst P read l)

-- once all have been gone through
pub all_marked : (graph : List Vertex) (marks : List Mark) (n : ℕ) → n ≡ length graph → IsLoadedBelow graph marks n → AreMarkedApart graph marks (length graph)
all_marked graph marks n e m =
    let P : ℕ → Type 0 = IsLoadedBelow graph marks in
    let all : IsLoadedBelow graph marks (length graph) = subst P e m in
    record { count = all.count; loaded = all.loaded; others = all.others }

-- each parent of a vertex that was read has a mark
pub parents_marked : (graph : List Vertex) (marks : List Mark) (n : ℕ) (job : Vertex) → IsGraph graph → n < length graph → job ≡ vertex graph n → length marks ≡ length graph → All (λ parent. parent < length marks) job.parents
parents_marked graph marks n job good hn read count =
    let below : (i : ℕ) (d : ℕ) → i < length (vertex graph n).parents → get_or (vertex graph n).parents i d < n = λ i d hi. (good n hn).below i d hi in
    let there : All (λ parent. parent < length marks) (vertex graph n).parents = λ i d hi. let low = below i d hi in omega arith in
    let P : Vertex → Type 0 = λ v. All (λ parent. parent < length marks) v.parents in
    subst P (sym read) there

-- of no parents none is loaded
pub loads_no_parents : (marks : List Mark) (parents : List ℕ) (its : Mark) → parents ≡ [] → LoadsFor marks marks parents its
loads_no_parents marks parents its e =
    let P : List ℕ → Type 0 = λ xs. LoadsFor marks marks xs its in
    subst P (sym e) (record {
      count = refl;
      loaded = λ c i (there : Contains [] i). let h : there.0 < 0 = there.1 in absurd (omega arith);
      stays = λ i e. e;
      others = λ i none. refl;
    })
