-- A graph that is brought up to date, one vertex after the other.
use Rattle.std.specs.List.{zip}
use Rattle.std.proofs.Common.{◌≡◌, ◌≢◌, ◌∙◌, inl, inr, subst, ℕ, suc, ◌+◌, ◌<◌, ◌≤◌, Bool, List, [], ◌∷◌, ◌++◌, Some, length, map, take, get_or, sym, refl, ap, ap₂, ⊎_elim, arith}
use Rattle.std.proofs.Math.Seq.{take-suc}
use Rattle.std.proofs.lemmas.Bool.{cases_lt}
use Rattle.std.proofs.lemmas.List.{get_or-map, get_or-take, get_or_default, take_all, length-map, length-take-le, same_lists}
use Rattle.std.proofs.lemmas.Slice.Zip.{get_or-zip, length-zip}
use Rattle.job_graph.specs.Jobs.{Job}
use Rattle.job_graph.specs.KnownJobs.{job_of, jobs_in, known_of}
use Rattle.job_graph.specs.PresentJobGraph.{is_needed, needed_among, present_job_graph, vertex_of as present_vertex}
use Rattle.job_graph.specs.Unfold.{Known, Resolved, known_from}
use Rattle.job_graph.specs.Words.{Fields}
use Rattle.job_graph.specs.declared.costs.Costs.{Costs}
use Rattle.job_graph.specs.declared.growth.KnownJob.{KnownJob}
use Rattle.plan_checker.specs.Graph.{no_vertex, vertex}
use Rattle.plan_checker.specs.declared.vertex.Vertex.{Vertex}
use Rattle.plan_checker.proofs.SumsBelow.{below_or_last}
use Rattle.plan_keeper.specs.Kept.{freed}
use Rattle.run_plan.specs.Brought.{AreStaying, StaysOrIsFreed}
use Rattle.run_plan.specs.inner.Again.{AreFirst, IsBrought, vertex_of, vertices_of}
use Rattle.run_plan.specs.inner.Kept.{flags_in}

-- the first n vertices are as they should be
pub record AreBroughtBelow (graph all : List Vertex) (count n : ℕ) : Type 0 where
  pub as_many : length graph ≡ count
  pub below : (i : ℕ) → i < n → vertex graph i ≡ vertex all i

pub brought_more : (old new all : List Vertex) (count n : ℕ) (job : Vertex) → AreBroughtBelow old all count n → IsBrought old new n job → job ≡ vertex all n → length new ≡ length old →
    AreBroughtBelow new all count (n + 1)
brought_more old new all count n job before now is same = record {
  as_many = same ∙ before.as_many;
  below = λ i hi.
      ⊎_elim
      (λ (lt : i < n). now.others i (λ e. absurd (omega (arith, e))) ∙ before.below i lt)
      (λ (last : i ≡ n). ap (vertex new) last ∙ now.there ∙ is ∙ ap (vertex all) (sym last))
      (below_or_last n i (omega (arith, hi)));
}

-- those from a number on, one more of which is as it should be
pub same_more : (graph all : List Vertex) (from n : ℕ) → ((i : ℕ) → from ≤ i → i < n → vertex graph i ≡ vertex all i) → vertex graph n ≡ vertex all n →
    (i : ℕ) → from ≤ i → i < n + 1 → vertex graph i ≡ vertex all i
same_more graph all from n before is i hi past =
    ⊎_elim
    (λ (lt : i < n). before i hi lt)
    (λ (last : i ≡ n). ap (vertex graph) last ∙ is ∙ ap (vertex all) (sym last))
    (below_or_last n i (omega (arith, past)))

-- those below a number, and those from there on
pub brought_on : (graph all : List Vertex) (count from n : ℕ) → AreBroughtBelow graph all count from → ((i : ℕ) → from ≤ i → i < n → vertex graph i ≡ vertex all i) →
    AreBroughtBelow graph all count n
brought_on graph all count from n before more = record {
  as_many = before.as_many;
  below = λ i hi.
      ⊎_elim
      (λ (lt : i < from). before.below i lt)
      (λ (past : from ≤ i). more i past hi)
      (cases_lt i from);
}

-- once all have been gone through
pub all_brought : (graph all : List Vertex) (count n : ℕ) → AreBroughtBelow graph all count n → count ≤ n → count ≤ length all → AreFirst graph all
all_brought graph all count n brought done within =
    let as_many = brought.as_many in
    let few : length graph ≤ length all = omega arith in
    same_lists graph (take (length graph) all) (sym (length-take-le (length graph) all few))
    (λ k d (hk : k < length graph).
    let hn : k < n = omega arith in
    get_or_default graph k d no_vertex hk ∙ brought.below k hn ∙ sym (get_or_default all k d no_vertex (omega arith)) ∙ sym (get_or-take (length graph) all k d hk))

-- the first n vertices stay or are freed, and the others are as they were
pub record AreStayingBelow (initial graph all : List Vertex) (n : ℕ) : Type 0 where
  pub each : (i : ℕ) → i < n → StaysOrIsFreed (vertex initial i) (vertex all i)
  pub left : (i : ℕ) → n ≤ i → vertex graph i ≡ vertex initial i

-- one more that is freed, and those from there on that stay
pub staying_more : (initial graph new all : List Vertex) (n next : ℕ) (parents : List ℕ) (costs : Costs) (needed : Bool) → AreStayingBelow initial graph all n →
    IsBrought graph new n (vertex_of parents costs needed) → vertex_of parents costs needed ≡ vertex all n → costs.load ≡ Some 0 → (vertex graph n).parents ≡ parents →
    ((i : ℕ) → n + 1 ≤ i → i < next → vertex new i ≡ vertex all i) → n + 1 ≤ next → AreStayingBelow initial new all next
staying_more initial graph new all n next parents costs needed before brought is free held same past =
    let at : StaysOrIsFreed (vertex initial n) (vertex all n) =
    inr (
      ap (λ (v : Vertex). v.load) (sym is) ∙ free,
      ap (λ (v : Vertex). v.parents) (sym is) ∙ sym held ∙ ap (λ (v : Vertex). v.parents) (before.left n (omega arith)),
    ) in
    record {
      each = λ i hi.
          ⊎_elim
          (λ (lt : i < n + 1).
          ⊎_elim
          (λ (below : i < n). before.each i below)
          (λ (e : i ≡ n). subst (λ (m : ℕ). StaysOrIsFreed (vertex initial m) (vertex all m)) (sym e) at)
          (below_or_last n i (omega (arith, lt))))
          (λ (ge : n + 1 ≤ i). inl (sym (same i ge hi) ∙ brought.others i (λ e. absurd (omega (arith, e, ge))) ∙ before.left i (omega (arith, ge))))
          (cases_lt i (n + 1));
      left = λ i ge. brought.others i (λ e. absurd (omega (arith, e, ge, past))) ∙ before.left i (omega (arith, ge, past));
    }

-- one that has changed and isn't freed
pub not_staying : (initial graph all : List Vertex) (n : ℕ) (parents : List ℕ) (costs : Costs) (needed : Bool) → AreStayingBelow initial graph all n → vertex graph n ≢ vertex all n →
    vertex_of parents costs needed ≡ vertex all n → (((costs.load ≡ Some 0) × ((vertex graph n).parents ≡ parents)) → ⊥) → n < length initial → AreStaying initial all → ⊥
not_staying initial graph all n parents costs needed below other is never there staying =
    let left : vertex graph n ≡ vertex initial n = below.left n (omega arith) in
    ⊎_elim
    (λ (same : vertex all n ≡ vertex initial n). other (left ∙ sym same))
    (λ freed.
    never (
      ap (λ (v : Vertex). v.load) is ∙ freed.0,
      ap (λ (v : Vertex). v.parents) left ∙ sym freed.1 ∙ ap (λ (v : Vertex). v.parents) (sym is),
    ))
    (staying.each n there)

-- the vertex of a number, by its parts
module _ (known : List KnownJob) (costs : List Costs) (needed : List Bool) (as_many : length costs ≡ length known) (flags : length needed ≡ length known) where
  zipped : length (zip known (zip costs needed)) ≡ length known
  zipped =
      let inner = length-zip costs needed in
      let outer = length-zip known (zip costs needed) in
      omega (arith, inner, outer, as_many, flags)

  pub vertices_count : length (vertices_of known costs needed) ≡ length known
  vertices_count = length-map (zip known (zip costs needed)) (λ (e : KnownJob × (Costs × Bool)). vertex_of e.0.parents e.1.0 e.1.1) ∙ zipped

  pub vertex_at : (i : ℕ) (job : KnownJob) (cost : Costs) (flag : Bool) → i < length known → job ≡ get_or known i job → cost ≡ get_or costs i cost → flag ≡ get_or needed i flag →
      vertex_of job.parents cost flag ≡ vertex (vertices_of known costs needed) i
  vertex_at i job cost flag hi read paid said =
      let its : KnownJob × (Costs × Bool) → Vertex = λ e. vertex_of e.0.parents e.1.0 e.1.1 in
      let inner : get_or (zip costs needed) i (cost, flag) ≡ (cost, flag) =
      get_or-zip costs needed i (cost, flag) (omega (arith, hi, as_many)) (omega (arith, hi, flags)) ∙ ap₂ (λ (c : Costs) (b : Bool). (c, b)) (sym paid) (sym said) in
      let some = length-zip costs needed in
      let outer : get_or (zip known (zip costs needed)) i (job, (cost, flag)) ≡ (job, (cost, flag)) =
      get_or-zip known (zip costs needed) i (job, (cost, flag)) hi (omega (arith, hi, as_many, flags, some))
      ∙ ap₂ (λ (k : KnownJob) (e : Costs × Bool). (k, e)) (sym read) inner in
      let all = zipped in
      sym (get_or-map its (zip known (zip costs needed)) i (job, (cost, flag)) no_vertex (omega (arith, hi, all)) ∙ ap its outer)

-- their flags
pub flags_are : (known : List KnownJob) (costs : List Costs) (needed : List Bool) → length costs ≡ length known → length needed ≡ length known → flags_in (vertices_of known costs needed) ≡ needed
flags_are [] costs [] as_many flags = refl
flags_are [] costs (b ∷ needed) as_many flags = absurd (omega (arith, flags))
flags_are (k ∷ known) [] needed as_many flags = absurd (omega (arith, as_many))
flags_are (k ∷ known) (c ∷ costs) [] as_many flags = absurd (omega (arith, flags))
flags_are (k ∷ known) (c ∷ costs) (b ∷ needed) as_many flags = ap (λ (rest : List Bool). b ∷ rest) (flags_are known costs needed (omega (arith, as_many)) (omega (arith, flags)))

-- the first n of them, one after the other
pub first_more : (graph all : List Vertex) (n : ℕ) (job : Vertex) → graph ≡ take n all → n < length all → job ≡ vertex all n → graph ++ job ∷ [] ≡ take (n + 1) all
first_more graph all n job first within is =
    let next : suc n ≡ n + 1 = omega arith in
    ap₂ (λ (front : List Vertex) (v : Vertex). front ++ v ∷ []) first is ∙ sym (take-suc all n no_vertex within) ∙ ap (λ (m : ℕ). take m all) next

pub all_first : (graph all : List Vertex) (n : ℕ) → graph ≡ take n all → length all ≤ n → graph ≡ all
all_first graph all n first within = first ∙ take_all n all within

-- the vertices are those of the present job graph
module _ (learned : List Resolved) (outs : Fields) where
  by_parts : (known : List KnownJob) (costs : List Costs) →
      vertices_of known costs (needed_among learned outs (jobs_in known)) ≡ map (present_vertex learned outs) (zip (map known_of known) costs)
  by_parts [] costs = refl
  by_parts (k ∷ ks) [] = refl
  by_parts (k ∷ ks) (c ∷ cs) = ap (λ (vs : List Vertex). present_vertex learned outs (known_of k, c) ∷ vs) (by_parts ks cs)

  pub are_present : (known : List KnownJob) (costs : List Costs) (needed : List Bool) (jobs : List Job) → jobs_in known ≡ jobs → map known_of known ≡ known_from [] jobs →
      needed ≡ needed_among learned outs jobs → vertices_of known costs needed ≡ present_job_graph learned jobs outs costs
  are_present known costs needed jobs are parents flags =
      ap (vertices_of known costs) (flags ∙ ap (needed_among learned outs) (sym are)) ∙ by_parts known costs
      ∙ ap (λ (ks : List Known). map (present_vertex learned outs) (zip ks costs)) parents

  -- and so their flags are
  pub flags_present : (known : List KnownJob) (costs : List Costs) (needed : List Bool) (jobs : List Job) (graph : List Vertex) → jobs_in known ≡ jobs → needed ≡ needed_among learned outs jobs →
      length costs ≡ length jobs → graph ≡ vertices_of known costs needed → needed ≡ flags_in graph
  flags_present known costs needed jobs graph are flags each is =
      let count : length known ≡ length jobs = sym (length-map known (λ (k : KnownJob). job_of k.job)) ∙ ap (λ (list : List Job). length list) are in
      let as_many : length needed ≡ length jobs = ap (λ (list : List Bool). length list) flags ∙ length-map jobs (λ (job : Job). is_needed learned outs job.place) in
      sym (ap flags_in is ∙ flags_are known costs needed (omega (arith, each, count)) (omega (arith, as_many, count)))
