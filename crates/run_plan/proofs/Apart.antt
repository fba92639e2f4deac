-- Graphs whose vertices stand apart: the first ones of them, and one more.
use Rattle.std.specs.Prelude.{◌↔◌, IfErr, IfOk, IfSome, IsSome, IsTrue}
use Rattle.std.specs.Global.{Vec}
use Rattle.std.proofs.Common.{◌≡◌, ◌≢◌, ◌∙◌, ℕ, zero, suc, ◌+◌, ◌<◌, ◌≤◌, Bool, true, false, List, [], ◌∷◌, ◌++◌, All, Option, Some, None, Result, Ok, Err, length, take, get_or, sym, refl, ap, subst, arith}
use Rattle.std.proofs.lemmas.List.{get_or-take, get_or_append_left, get_or_default, get_or_push, length_push}
use Rattle.job_graph.specs.Unfold.{Fault}
use Rattle.job_graph.specs.Unfolding.{Blames, fault_of}
use Rattle.job_graph.specs.declared.fault.UnfoldError.{UnfoldError}
use Rattle.plan_checker.specs.Graph.{Fits, FitsAt, IsRefusedLast, entries_below, no_vertex, vertex}
use Rattle.plan_checker.specs.declared.graph_error.GraphError.{GraphError}
use Rattle.plan_checker.specs.declared.vertex.Vertex.{Vertex}
use Rattle.plan_checker.proofs.SumsBelow.{sum_below_same}
use Rattle.plan_keeper.specs.Apart.{AreApart, StandsApart}
use Rattle.plan_keeper.specs.Free.{IsFree}
use Rattle.plan_keeper.specs.Kept.{IsKeptApart}
use Rattle.plan_keeper.specs.declared.planned.Planned.{Planned}
use Rattle.run_plan.specs.Brought.{AreStaying, CanBeBrought, IsGraphApart, StaysApart}
use Rattle.run_plan.specs.declared.kept.NextPlan.{NextPlan}
use Rattle.run_plan.specs.inner.Kept.{IsKeptWith}

taken_within : (k : ℕ) (all : List Vertex) (i : ℕ) → i < length (take k all) → (i < k) × (i < length all)
taken_within zero all i within = absurd (omega (arith, within))
taken_within (suc k) [] i within = absurd (omega (arith, within))
taken_within (suc k) (v ∷ all) zero within = (omega arith, omega arith)
taken_within (suc k) (v ∷ all) (suc i) within = let rest = taken_within k all i (omega (arith, within)) in (omega (arith, rest.0), omega (arith, rest.1))

entries_taken : (k : ℕ) (all : List Vertex) (n : ℕ) → n ≤ k → entries_below (take k all) n ≡ entries_below all n
entries_taken k all n few =
    sum_below_same n (λ i. length (vertex (take k all) i).parents) (λ i. length (vertex all i).parents)
    (λ i below. ap (λ (v : Vertex). length v.parents) (get_or-take k all i no_vertex (omega (arith, below, few))))

pub apart_taken : (k : ℕ) (all : List Vertex) → IsGraphApart all → IsGraphApart (take k all)
apart_taken k all it =
    let same : (i : ℕ) → i < k → vertex (take k all) i ≡ vertex all i = λ i within. get_or-take k all i no_vertex within in
    record {
      good = λ i within.
          let there = taken_within k all i within in
          subst (λ (n : ℕ). Fits i n (vertex (take k all) i)) (sym (entries_taken k all (i + 1) (omega (arith, there.0))))
          (subst (λ (v : Vertex). Fits i (entries_below all (i + 1)) v) (sym (same i there.0)) (it.good i there.1));
      apart = λ i d within.
          let there = taken_within k all i within in
          subst (λ (v : Vertex). StandsApart (take k all) v) (sym (get_or_default (take k all) i d no_vertex within ∙ same i there.0))
          (record {
            free_parents = λ computed q e hq.
                let below : get_or (vertex all i).parents q e < i = (it.good i there.1).below q e hq in
                subst IsFree (sym (same (get_or (vertex all i).parents q e) (omega (arith, below, there.0)))) ((it.apart i no_vertex there.1).free_parents computed q e hq);
          });
    }

-- the last vertex of such a graph stands apart from those before it
last_stands : (graph : List Vertex) (job : Vertex) → IsGraphApart (graph ++ job ∷ []) → StandsApart graph job
last_stands graph job it =
    let n : ℕ = length graph in
    let there : n < length (graph ++ job ∷ []) = omega (arith, length_push graph job) in
    let is : vertex (graph ++ job ∷ []) n ≡ job = get_or_push graph job no_vertex n refl in
    let below : All (λ parent. parent < n) job.parents = subst (λ (v : Vertex). All (λ parent. parent < n) v.parents) is (it.good n there).below in
    let stands : StandsApart (graph ++ job ∷ []) job = subst (λ (v : Vertex). StandsApart (graph ++ job ∷ []) v) is (it.apart n no_vertex there) in
    record {
      free_parents = λ computed q e hq. subst IsFree (get_or_append_left graph (job ∷ []) no_vertex (get_or job.parents q e) (below q e hq)) (stands.free_parents computed q e hq);
    }

-- where it doesn't fit there is no such graph
pub misfit : (graph : List Vertex) (job : Vertex) (i : ℕ) → (i ≡ length graph) × (¬ FitsAt (graph ++ job ∷ []) i) → IsGraphApart (graph ++ job ∷ []) → ⊥
misfit graph job i refused it = refused.1 (it.good i (omega (arith, refused.0, length_push graph job)))

pub misfit_exactly : (graph : List Vertex) (job : Vertex) (error : GraphError) (i : ℕ) → error ≡ GraphError.BadGraph i → IsRefusedLast graph job error →
    (false ≡ true → IsGraphApart (graph ++ job ∷ [])) × (IsGraphApart (graph ++ job ∷ []) → false ≡ true)
misfit_exactly graph job error i is refused = (
  (λ never. absurd cc),
  (λ it. absurd (misfit graph job i (subst (IsRefusedLast graph job) is refused) it)),
)

-- a vertex is added exactly where that gives such a graph
pub added_exactly : (graph : List Vertex) (job : Vertex) (found : Option Planned) → (IsSome found ↔ StandsApart graph job) →
    IfSome found (λ more. IsKeptApart more × (more.graph ≡ graph ++ job ∷ [])) → IsSome found ↔ IsGraphApart (graph ++ job ∷ [])
added_exactly graph job found stands kept = ((λ some. by found some kept), (λ it. stands.1 (last_stands graph job it)))
  where
    by : (found : Option Planned) → IsSome found → IfSome found (λ more. IsKeptApart more × (more.graph ≡ graph ++ job ∷ [])) → IsGraphApart (graph ++ job ∷ [])
    by None some kept = let never : false ≡ true = some in absurd cc
    by (Some more) some kept = subst IsGraphApart kept.1 (record { good = kept.0.good; apart = kept.0.apart })

-- the plan has flags exactly where its vertices stand apart
pub flags_exactly : (made : Planned) (needed : Option (Vec Bool)) → IsKeptWith made needed → IsSome needed ↔ AreApart made.graph
flags_exactly made None whole = ((λ never. absurd cc), (λ apart. absurd (whole apart)))
flags_exactly made (Some flags) kept = ((λ some. kept.0.apart), (λ apart. refl))

-- a plan that is made anew, where the last one can't be brought up to date
pub anew_exactly : {E : Type 0} (P : Type 0) (result : Result NextPlan E) → IfOk result (λ next. next.brought ≡ false) → (P → ⊥) → IfOk result (λ next. IsTrue next.brought ↔ P)
anew_exactly P (Ok next) anew cannot = ((λ yes. let never : false ≡ true = sym anew ∙ yes in absurd cc), (λ can. absurd (cannot can)))
anew_exactly P (Err error) anew cannot = tt

-- the same said of another last plan
pub brought_as : {E : Type 0} (P Q : Type 0) (result : Result NextPlan E) → (P ↔ Q) → IfOk result (λ next. IsTrue next.brought ↔ P) → IfOk result (λ next. IsTrue next.brought ↔ Q)
brought_as P Q (Ok next) same exact = ((λ yes. same.0 (exact.0 yes)), (λ can. exact.1 (same.1 can)))
brought_as P Q (Err error) same exact = tt

pub found_as : {T : Type 0} (F P Q : Type 0) (found : Option T) → (P ↔ Q) → (IsSome found ↔ (F × P)) → IsSome found ↔ (F × Q)
found_as F P Q found same exact = ((λ some. ((exact.0 some).0, same.0 (exact.0 some).1)), (λ both. exact.1 (both.0, same.1 both.1)))

-- and so it is where it stays apart for the changes' sake
pub few_found : {E : Type 0} (F : Type 0) (old all : List Vertex) (result : Result (Option Planned) E) → F → AreApart old → AreStaying old all →
    IfOk result (λ found. IsSome found ↔ IsGraphApart all) → IfOk result (λ found. IsSome found ↔ (F × StaysApart old all))
few_found F old all (Ok found) freeing before staying exact = (
  (λ some. (freeing, record { before = before; staying = staying; after = exact.0 some })),
  (λ both. exact.1 both.1.after),
)
few_found F old all (Err error) freeing before staying exact = tt

-- from a last plan's graph
pub last_stays : (last : Option Planned) (kept : Planned) (old graph : List Vertex) → last ≡ Some kept → old ≡ kept.graph → StaysApart old graph ↔ CanBeBrought last graph
last_stays last kept old graph is same = (
  (λ stays. subst (λ (l : Option Planned). CanBeBrought l graph) (sym is) (subst (λ (its : List Vertex). StaysApart its graph) same stays)),
  (λ can. subst (λ (its : List Vertex). StaysApart its graph) (sym same) (subst (λ (l : Option Planned). CanBeBrought l graph) is can)),
)

-- where nothing was refused, nothing is but for want of memory
pub never_refused : {T : Type 0} (X : Type 0) (refused : Option Fault) (result : Result T UnfoldError) → refused ≡ None → IfErr result (Blames refused) → IfErr result (λ error. error ≢ UnfoldError.OutOfMemory → X)
never_refused X refused (Ok made) none blames = tt
never_refused X refused (Err (UnfoldError.Refused fault)) none blames = let never : Some (fault_of fault) ≡ None = sym blames ∙ none in absurd cc
never_refused X refused (Err UnfoldError.OutOfMemory) none blames = λ other. absurd (other refl)
