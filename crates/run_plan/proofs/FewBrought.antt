-- A graph that is brought up to date where few jobs were touched.
use Rattle.std.specs.Prelude.{◌↔◌, drop}
use Rattle.std.proofs.Common.{drop-cons, ◌≡◌, ◌≢◌, ◌∙◌, ◌⊎◌, inl, inr, subst, ℕ, zero, suc, ◌+◌, ◌<◌, ◌≤◌, Bool, false, List, [], ◌∷◌, ◌++◌, Some, length, map, take, get_or, set, sym, refl, ap, ⊎_elim, arith}
use Rattle.std.proofs.Math.Seq.{take-suc}
use Rattle.std.proofs.Math.ListN.{get_or-eq_default}
use Rattle.std.proofs.lemmas.Bool.{cases_eq, cases_lt}
use Rattle.std.proofs.lemmas.List.{get_or-append_right, get_or_append_left, get_or-map, get_or-set_other, get_or-set_same, get_or-take, get_or_default, length-append, length-map, length-set, length-take-le, map-set, same_lists, set-get_or, set_past, take_all, take_more}
use Rattle.job_graph.specs.Jobs.{Job}
use Rattle.job_graph.specs.KnownJobs.{known_of}
use Rattle.job_graph.specs.Unfold.{Known, known_from}
use Rattle.job_graph.specs.declared.costs.Costs.{Costs}
use Rattle.job_graph.specs.declared.growth.KnownJob.{KnownJob}
use Rattle.plan_checker.specs.Graph.{no_vertex, vertex}
use Rattle.plan_checker.specs.declared.vertex.Vertex.{Vertex}
use Rattle.plan_checker.proofs.SumsBelow.{below_or_last}
use Rattle.plan_keeper.specs.Free.{IsFree}
use Rattle.run_plan.specs.Brought.{AreFree, AreFreeing, AreStaying, StaysOrIsFreed}
use Rattle.run_plan.specs.inner.Again.{IsBrought, vertex_of, vertices_of}
use Rattle.run_plan.specs.Touched.{AreOfFirst, costs_in, patched}
use Rattle.run_plan.specs.inner.Flagged.{AreFlaggedBelow, HaveParents, IsFlaggedEither, IsFlaggedOrFree, IsFreedAs, parents_at}
use Rattle.run_plan.specs.inner.Kept.{AreSameBetween, flags_in}
use Rattle.run_plan.proofs.Brought.{vertices_count}

pub patched_count : (costs : List Costs) (changed : List (ℕ × Costs)) → length (patched costs changed) ≡ length costs
patched_count costs [] = refl
patched_count costs (one ∷ changed) = patched_count (set costs one.0 one.1) changed ∙ length-set costs one.0 one.1

-- one more that has changed
patched_last : (costs : List Costs) (changed : List (ℕ × Costs)) (one : ℕ × Costs) → patched costs (changed ++ one ∷ []) ≡ set (patched costs changed) one.0 one.1
patched_last costs [] one = refl
patched_last costs (c ∷ changed) one = patched_last (set costs c.0 c.1) changed one

pub patched_more : (costs : List Costs) (changed : List (ℕ × Costs)) (i : ℕ) (one : ℕ × Costs) → i < length changed → one ≡ get_or changed i one →
    patched costs (take (i + 1) changed) ≡ set (patched costs (take i changed)) one.0 one.1
patched_more costs changed i one within is =
    ap (patched costs) (take_more changed i one within ∙ ap (λ (x : ℕ × Costs). take i changed ++ x ∷ []) (sym is)) ∙ patched_last costs (take i changed) one

-- a graph that is brought up to date at a vertex
brought_set : (old new : List Vertex) (number : ℕ) (job : Vertex) → number < length old → length new ≡ length old → IsBrought old new number job → new ≡ set old number job
brought_set old new number job there many brought =
    let as_many : length new ≡ length (set old number job) = many ∙ sym (length-set old number job) in
    same_lists new (set old number job) as_many
    (λ k d (hk : k < length new).
    get_or_default new k d no_vertex hk
    ∙ ⊎_elim
    (λ (e : k ≡ number). ap (vertex new) e ∙ brought.there ∙ sym (get_or-set_same old number job no_vertex there) ∙ ap (vertex (set old number job)) (sym e))
    (λ (e : k ≢ number). brought.others k e ∙ sym (get_or-set_other old number k job no_vertex e)) (cases_eq k number)
    ∙ sym (get_or_default (set old number job) k d no_vertex (omega (arith, hk, as_many))))

pub costs_brought : (old new : List Vertex) (number : ℕ) (parents : List ℕ) (costs : Costs) (needed : Bool) → number < length old → length new ≡ length old →
    IsBrought old new number (vertex_of parents costs needed) → map costs_in new ≡ set (map costs_in old) number costs
costs_brought old new number parents costs needed there many brought =
    ap (map costs_in) (brought_set old new number (vertex_of parents costs needed) there many brought) ∙ map-set costs_in old number (vertex_of parents costs needed)

pub costs_past : (graph : List Vertex) (number : ℕ) (costs : Costs) → length graph ≤ number → map costs_in graph ≡ set (map costs_in graph) number costs
costs_past graph number costs past = sym (set_past (map costs_in graph) number costs (omega (arith, past, length-map graph costs_in)))

-- where it keeps its parents, so do all
pub parents_brought : (known : List KnownJob) (old new : List Vertex) (number : ℕ) (costs : Costs) (needed : Bool) → length new ≡ length old → HaveParents known old →
    IsBrought old new number (vertex_of (parents_at known number) costs needed) → HaveParents known new
parents_brought known old new number costs needed many before brought i hi =
    ⊎_elim
    (λ (e : i ≡ number). ap (λ (n : ℕ). (vertex new n).parents) e ∙ ap (λ (v : Vertex). v.parents) brought.there ∙ ap (parents_at known) (sym e))
    (λ (e : i ≢ number). ap (λ (v : Vertex). v.parents) (brought.others i e) ∙ before i (omega (arith, hi, many)))
    (cases_eq i number)

parents_by_job : (known : List KnownJob) → map (λ (k : Known). k.parents) (map known_of known) ≡ map (λ (k : KnownJob). k.parents) known
parents_by_job [] = refl
parents_by_job (k ∷ known) = ap (λ (rest : List (List ℕ)). k.parents ∷ rest) (parents_by_job known)

-- the parents that the jobs have as the definitions see them
pub have_parents : (graph : List Vertex) (jobs : List Job) (known : List KnownJob) → map known_of known ≡ known_from [] jobs → AreOfFirst graph jobs → HaveParents known graph
have_parents graph jobs known is first i hi =
    first.1 i hi ∙ ap (λ (all : List Known). get_or (map (λ (k : Known). k.parents) all) i []) (sym is) ∙ ap (λ (all : List (List ℕ)). get_or all i []) (parents_by_job known)

-- at its own costs
pub costs_same : (old new : List Vertex) (number : ℕ) (parents : List ℕ) (needed : Bool) → number < length old → length new ≡ length old →
    IsBrought old new number (vertex_of parents (costs_in (vertex old number)) needed) → map costs_in new ≡ map costs_in old
costs_same old new number parents needed there many brought =
    costs_brought old new number parents (costs_in (vertex old number)) needed there many brought ∙ sym (map-set costs_in old number (vertex old number))
    ∙ ap (map costs_in) (set-get_or old number no_vertex)

pub parents_are : (known : List KnownJob) (n : ℕ) (job : KnownJob) → n < length known → job ≡ get_or known n job → job.parents ≡ parents_at known n
parents_are known n job within is = ap (λ (k : KnownJob). k.parents) is ∙ sym (get_or-map (λ (k : KnownJob). k.parents) known n job [] within)

-- one more vertex is flagged
pub flagged_more : (known : List KnownJob) (needed : List Bool) (old new : List Vertex) (n : ℕ) → AreFlaggedBelow known needed old n →
    IsBrought old new n (vertex_of (parents_at known n) (costs_in (vertex old n)) (get_or needed n false)) → AreFlaggedBelow known needed new (n + 1)
flagged_more known needed old new n before now i hi =
    ⊎_elim
    (λ (lt : i < n).
    let same : vertex new i ≡ vertex old i = now.others i (λ e. absurd (omega (arith, e, lt))) in
    same ∙ before i lt ∙ ap (λ (v : Vertex). vertex_of (parents_at known i) (costs_in v) (get_or needed i false)) (sym same))
    (λ (last : i ≡ n).
    ap (vertex new) last ∙ now.there
    ∙ ap (λ (c : Costs). vertex_of (parents_at known n) c (get_or needed n false)) (sym (ap costs_in now.there))
    ∙ ap (λ (m : ℕ). vertex_of (parents_at known m) (costs_in (vertex new m)) (get_or needed m false)) (sym last))
    (below_or_last n i (omega (arith, hi)))

-- the vertices of known jobs by their numbers
pub at_parts : (known : List KnownJob) (costs : List Costs) (needed : List Bool) (i : ℕ) (d : Costs) → length costs ≡ length known → length needed ≡ length known → i < length known →
    vertex (vertices_of known costs needed) i ≡ vertex_of (parents_at known i) (get_or costs i d) (get_or needed i false)
at_parts [] costs needed i d many flags hi = absurd (omega (arith, hi))
at_parts (k ∷ known) [] needed i d many flags hi = absurd (omega (arith, many))
at_parts (k ∷ known) (c ∷ costs) [] i d many flags hi = absurd (omega (arith, flags))
at_parts (k ∷ known) (c ∷ costs) (b ∷ needed) zero d many flags hi = refl
at_parts (k ∷ known) (c ∷ costs) (b ∷ needed) (suc i) d many flags hi = at_parts known costs needed i d (omega (arith, many)) (omega (arith, flags)) (omega (arith, hi))

module _ (known : List KnownJob) (graph : List Vertex) (later : List Costs) (needed : List Bool) (each : length graph + length later ≡ length known) (flags : length needed ≡ length known) where
  abbrev pub all_costs : List Costs
  all_costs = map costs_in graph ++ later

  all_many : length all_costs ≡ length known
  all_many = omega (arith, length-append (map costs_in graph) later, length-map graph costs_in, each)

  -- those that are flagged are the first of all
  pub flagged_first : AreFlaggedBelow known needed graph (length graph) → graph ≡ take (length graph) (vertices_of known all_costs needed)
  flagged_first flagged =
      let all : List Vertex = vertices_of known all_costs needed in
      let count : length all ≡ length known = vertices_count known all_costs needed all_many flags in
      let few : length graph ≤ length all = omega (arith, each, count) in
      same_lists graph (take (length graph) all) (sym (length-take-le (length graph) all few))
      (λ k d (hk : k < length graph).
      get_or_default graph k d no_vertex hk ∙ flagged k hk
      ∙ ap (λ (c : Costs). vertex_of (parents_at known k) c (get_or needed k false))
      (sym (get_or_append_left (map costs_in graph) later (costs_in no_vertex) k (omega (arith, hk, length-map graph costs_in)) ∙ get_or-map costs_in graph k no_vertex (costs_in no_vertex) hk))
      ∙ sym (at_parts known all_costs needed k (costs_in no_vertex) all_many flags (omega (arith, hk, each)))
      ∙ sym (get_or_default all k d no_vertex (omega (arith, hk, few)))
      ∙ sym (get_or-take (length graph) all k d hk))

  pub none_later : AreFlaggedBelow known needed graph (length graph) → graph ≡ take (length graph + 0) (vertices_of known all_costs needed)
  none_later flagged =
      let none : length graph ≡ length graph + 0 = omega arith in
      flagged_first flagged ∙ ap (λ (n : ℕ). take n (vertices_of known all_costs needed)) none

  -- and then the later ones come
  pub later_more : (now : List Vertex) (k : ℕ) (cost : Costs) (job : Vertex) → now ≡ take (length graph + k) (vertices_of known all_costs needed) → k < length later → cost ≡ get_or later k cost →
      job ≡ vertex_of (parents_at known (length graph + k)) cost (get_or needed (length graph + k) false) →
      now ++ job ∷ [] ≡ take (length graph + (k + 1)) (vertices_of known all_costs needed)
  later_more now k cost job first within its is =
      let n : ℕ = length graph + k in
      let all : List Vertex = vertices_of known all_costs needed in
      let count : length all ≡ length known = vertices_count known all_costs needed all_many flags in
      let there : n < length known = omega (arith, within, each) in
      let paid : get_or all_costs n cost ≡ cost =
      get_or-append_right (map costs_in graph) later (length graph) n cost (length-map graph costs_in) (omega arith) ∙ ap (λ (m : ℕ). get_or later m cost) (omega arith) ∙ sym its in
      let same : job ≡ vertex all n =
      is ∙ ap (λ (c : Costs). vertex_of (parents_at known n) c (get_or needed n false)) (sym paid) ∙ sym (at_parts known all_costs needed n cost all_many flags there) in
      let next : suc n ≡ length graph + (k + 1) = omega arith in
      ap (λ (front : List Vertex). front ++ job ∷ []) first ∙ ap (λ (v : Vertex). take n all ++ v ∷ []) same ∙ sym (take-suc all n no_vertex (omega (arith, there, count)))
      ∙ ap (λ (m : ℕ). take m all) next

  pub all_later : (now : List Vertex) (k : ℕ) → now ≡ take (length graph + k) (vertices_of known all_costs needed) → length later ≤ k → now ≡ vertices_of known all_costs needed
  all_later now k first past =
      let count : length (vertices_of known all_costs needed) ≡ length known = vertices_count known all_costs needed all_many flags in
      first ∙ take_all (length graph + k) (vertices_of known all_costs needed) (omega (arith, past, each, count))

-- Whether the changes free their jobs

-- past the end nothing is there
pub nothing_there : (graph : List Vertex) (number : ℕ) (costs : Costs) → length graph ≤ number → get_or (map costs_in graph) number costs ≡ costs
nothing_there graph number costs past = get_or-eq_default (map costs_in graph) costs (omega (arith, past, length-map graph costs_in))

pub costs_there : (graph : List Vertex) (number : ℕ) (costs : Costs) → number < length graph → get_or (map costs_in graph) number costs ≡ costs_in (vertex graph number)
costs_there graph number costs there = get_or-map costs_in graph number no_vertex costs there

-- costs that are there already change nothing
pub costs_kept : (graph : List Vertex) (number : ℕ) (costs : Costs) → get_or (map costs_in graph) number costs ≡ costs → map costs_in graph ≡ set (map costs_in graph) number costs
costs_kept graph number costs same =
    sym (set-get_or (map costs_in graph) number costs) ∙ ap (λ (c : Costs). set (map costs_in graph) number c) same

-- the first of some changes
pub freeing_more : (first costs next : List Costs) (changed rest left : List (ℕ × Costs)) (one : ℕ × Costs) → (AreFreeing first changed ↔ AreFreeing costs rest) → rest ≡ one ∷ left →
    (AreFree one.1 ⊎ (get_or costs one.0 one.1 ≡ one.1)) → next ≡ set costs one.0 one.1 → AreFreeing first changed ↔ AreFreeing next left
freeing_more first costs next changed rest left one it is takes now = (
  λ all. subst (λ (list : List Costs). AreFreeing list left) (sym now) (subst (AreFreeing costs) is (it.0 all)).1,
  λ more. it.1 (subst (AreFreeing costs) (sym is) (takes, subst (λ (list : List Costs). AreFreeing list left) now more)),
)

pub not_freeing : (first costs : List Costs) (changed rest left : List (ℕ × Costs)) (one : ℕ × Costs) → (AreFreeing first changed ↔ AreFreeing costs rest) → rest ≡ one ∷ left →
    ((AreFree one.1 ⊎ (get_or costs one.0 one.1 ≡ one.1)) → ⊥) → AreFreeing first changed → ⊥
not_freeing first costs changed rest left one it is never all = never (subst (AreFreeing costs) is (it.0 all)).0

-- the changes from a number on
pub drop_one : (changed : List (ℕ × Costs)) (i : ℕ) (one : ℕ × Costs) → i < length changed → one ≡ get_or changed i one → drop i changed ≡ one ∷ drop (i + 1) changed
drop_one changed i one within is =
    let next : suc i ≡ i + 1 = omega arith in
    drop-cons changed i one within ∙ ap (λ (x : ℕ × Costs). x ∷ drop (suc i) changed) (sym is) ∙ ap (λ (m : ℕ). one ∷ drop m changed) next

drop_past : (changed : List (ℕ × Costs)) (i : ℕ) → length changed ≤ i → drop i changed ≡ []
drop_past [] zero past = refl
drop_past [] (suc i) past = refl
drop_past (one ∷ changed) zero past = absurd (omega (arith, past))
drop_past (one ∷ changed) (suc i) past = drop_past changed i (omega (arith, past))

pub freeing_done : (first costs : List Costs) (changed : List (ℕ × Costs)) (i : ℕ) → (AreFreeing first changed ↔ AreFreeing costs (drop i changed)) → length changed ≤ i → AreFreeing first changed
freeing_done first costs changed i it past = it.1 (subst (AreFreeing costs) (sym (drop_past changed i past)) tt)

-- a vertex that stays or is freed, after one more step
pub freed_on : (needed : List Bool) (old mid new : List Vertex) (n : ℕ) → (vertex mid n ≡ vertex old n) ⊎ IsFreedAs needed mid n → (vertex new n ≡ vertex mid n) ⊎ IsFreedAs needed new n →
    (vertex new n ≡ vertex old n) ⊎ IsFreedAs needed new n
freed_on needed old mid new n before now =
    ⊎_elim
    (λ (same : vertex new n ≡ vertex mid n).
    ⊎_elim
    (λ (stays : vertex mid n ≡ vertex old n). inl (same ∙ stays))
    (λ freed. inr (ap (λ (v : Vertex). v.load) same ∙ freed.0, ap (λ (v : Vertex). v.needed) same ∙ freed.1))
    before)
    (λ freed. inr freed)
    now

-- those that a freed vertex leaves
pub others_left : (old new : List Vertex) (number : ℕ) (parents : List ℕ) (costs : Costs) (needed : List Bool) → costs.load ≡ Some 0 →
    IsBrought old new number (vertex_of parents costs (get_or needed number false)) → (n : ℕ) → (vertex new n ≡ vertex old n) ⊎ IsFreedAs needed new n
others_left old new number parents costs needed free brought n =
    ⊎_elim
    (λ (e : n ≡ number).
    let there : vertex new n ≡ vertex_of parents costs (get_or needed number false) = ap (vertex new) e ∙ brought.there in
    inr (ap (λ (v : Vertex). v.load) there ∙ free, ap (λ (v : Vertex). v.needed) there ∙ ap (λ (m : ℕ). get_or needed m false) (sym e)))
    (λ (e : n ≢ number). inl (brought.others n e))
    (cases_eq n number)

-- what stays has the flag that it had, and what is freed the one that it has now
pub flagged_either : (before needed : List Bool) (old new : List Vertex) (n : ℕ) → before ≡ flags_in old → n < length old → (vertex new n ≡ vertex old n) ⊎ IsFreedAs needed new n →
    IsFlaggedEither before needed new n
flagged_either before needed old new n are there now =
    ⊎_elim
    (λ (same : vertex new n ≡ vertex old n).
    inl (ap (λ (v : Vertex). v.needed) same ∙ sym (get_or-map (λ (v : Vertex). v.needed) old n no_vertex false there) ∙ ap (λ (flags : List Bool). get_or flags n false) (sym are)))
    (λ freed. inr freed.1)
    now

-- the first n vertices are flagged as they should be or free, and the others are as they were
pub record AreFlagsBelow (needed : List Bool) (initial graph : List Vertex) (n : ℕ) : Type 0 where
  pub each : (i : ℕ) → i < n → IsFlaggedOrFree needed initial i
  pub left : (i : ℕ) → n ≤ i → vertex graph i ≡ vertex initial i

pub no_flags : (needed : List Bool) (initial : List Vertex) → AreFlagsBelow needed initial initial 0
no_flags needed initial = record { each = λ n below. absurd (omega (arith, below)); left = λ n ge. refl }

pub flags_more : (needed : List Bool) (initial graph new : List Vertex) (n : ℕ) (job : Vertex) → AreFlagsBelow needed initial graph n → IsBrought graph new n job → IsFlaggedOrFree needed graph n →
    AreFlagsBelow needed initial new (n + 1)
flags_more needed initial graph new n job before brought now = record {
  each = λ i hi.
      ⊎_elim
      (λ (lt : i < n). before.each i lt)
      (λ (e : i ≡ n). subst (IsFlaggedOrFree needed initial) (sym e) (flag_before needed initial graph n before now))
      (below_or_last n i (omega (arith, hi)));
  left = λ i ge. brought.others i (λ e. absurd (omega (arith, e, ge))) ∙ before.left i (omega (arith, ge));
}
  where
    flag_before : (needed : List Bool) (initial graph : List Vertex) (n : ℕ) → AreFlagsBelow needed initial graph n → IsFlaggedOrFree needed graph n → IsFlaggedOrFree needed initial n
    flag_before needed initial graph n below flagged =
        subst (λ (v : Vertex). (v.needed ≡ get_or needed n false) ⊎ IsFree v) (below.left n (omega arith)) flagged

pub not_flagged : (needed : List Bool) (initial graph : List Vertex) (n : ℕ) → AreFlagsBelow needed initial graph n → (IsFlaggedOrFree needed graph n → ⊥) → IsFlaggedOrFree needed initial n → ⊥
not_flagged needed initial graph n below never flagged =
    never (subst (λ (v : Vertex). (v.needed ≡ get_or needed n false) ⊎ IsFree v) (sym (below.left n (omega arith))) flagged)

-- those from a number on whose flags are as they were
module _ (known : List KnownJob) (before needed : List Bool) (initial graph : List Vertex) (from number : ℕ)
    (either : (n : ℕ) → n < length initial → IsFlaggedEither before needed initial n) (parents : HaveParents known graph) (count : length graph ≡ length initial)
    (flags : AreFlagsBelow needed initial graph from) (same : AreSameBetween from number before needed) (on : from ≤ number) (within : number ≤ length initial) where
  flag_at : (n : ℕ) → from ≤ n → n < number → (vertex initial n).needed ≡ get_or needed n false
  flag_at n past below =
      ⊎_elim
      (λ (was : (vertex initial n).needed ≡ get_or before n false). was ∙ same n past below)
      (λ now. now)
      (either n (omega (arith, below, within)))

  pub flagged_on : AreFlaggedBelow known needed graph from → AreFlaggedBelow known needed graph number
  flagged_on flagged n below =
      ⊎_elim
      (λ (lt : n < from). flagged n lt)
      (λ (past : from ≤ n).
      let its : List ℕ → Bool → Vertex = λ ps b. vertex_of ps (costs_in (vertex graph n)) b in
      ap (λ (ps : List ℕ). its ps (vertex graph n).needed) (parents n (omega (arith, below, within, count)))
      ∙ ap (its (parents_at known n)) (ap (λ (v : Vertex). v.needed) (flags.left n past) ∙ flag_at n past below))
      (cases_lt n from)

  pub flags_on : AreFlagsBelow needed initial graph number
  flags_on = record {
    each = λ n below.
        ⊎_elim
        (λ (lt : n < from). flags.each n lt)
        (λ (past : from ≤ n). inl (flag_at n past below))
        (cases_lt n from);
    left = λ n ge. flags.left n (omega (arith, ge, on));
  }

-- the vertices of known jobs, by what has become of the graph before: its costs are brought up to date, and a flag is brought up to date where it can be
module _ (known : List KnownJob) (needed : List Bool) (old mid : List Vertex) (later : List Costs) (each : length old + length later ≡ length known) (flags : length needed ≡ length known)
    (count : length mid ≡ length old) (parents : HaveParents known old) (its_parents : HaveParents known mid) (freed : (n : ℕ) → (vertex mid n ≡ vertex old n) ⊎ IsFreedAs needed mid n) where
  abbrev all_after : List Vertex
  all_after = vertices_of known (map costs_in mid ++ later) needed

  after_at : (n : ℕ) → n < length old → vertex all_after n ≡ vertex_of (parents_at known n) (costs_in (vertex mid n)) (get_or needed n false)
  after_at n there =
      let costs : List Costs = map costs_in mid ++ later in
      let here : n < length (map costs_in mid) = omega (arith, there, count, length-map mid costs_in) in
      let many : length costs ≡ length known = omega (arith, length-append (map costs_in mid) later, length-map mid costs_in, count, each) in
      at_parts known costs needed n (costs_in no_vertex) many flags (omega (arith, there, each))
      ∙ ap (λ (c : Costs). vertex_of (parents_at known n) c (get_or needed n false))
      (get_or_append_left (map costs_in mid) later (costs_in no_vertex) n here ∙ get_or-map costs_in mid n no_vertex (costs_in no_vertex) (omega (arith, there, count)))

  freed_after : (n : ℕ) → n < length old → IsFree (vertex mid n) → StaysOrIsFreed (vertex old n) (vertex all_after n)
  freed_after n there free = inr (
    ap (λ (v : Vertex). v.load) (after_at n there) ∙ free,
    ap (λ (v : Vertex). v.parents) (after_at n there) ∙ sym (parents n there),
  )

  stays_after : (n : ℕ) → n < length old → (vertex mid n).needed ≡ get_or needed n false → StaysOrIsFreed (vertex old n) (vertex all_after n)
  stays_after n there flag =
      let mid_is : vertex all_after n ≡ vertex mid n =
      after_at n there ∙ ap (λ (ps : List ℕ). vertex_of ps (costs_in (vertex mid n)) (get_or needed n false)) (sym (its_parents n (omega (arith, there, count))))
      ∙ ap (λ (b : Bool). vertex_of (vertex mid n).parents (costs_in (vertex mid n)) b) (sym flag) in
      ⊎_elim (λ (same : vertex mid n ≡ vertex old n). inl (mid_is ∙ same)) (λ (now : IsFreedAs needed mid n). freed_after n there now.0) (freed n)

  pub staying_by_flags : ((n : ℕ) → n < length old → IsFlaggedOrFree needed mid n) → AreStaying old (vertices_of known (map costs_in mid ++ later) needed)
  staying_by_flags flagged = record {
    longer = omega (arith, each, vertices_count known (map costs_in mid ++ later) needed (omega (arith, length-append (map costs_in mid) later, length-map mid costs_in, count, each)) flags);
    each = λ n there. ⊎_elim (λ flag. stays_after n there flag) (λ free. freed_after n there free) (flagged n there);
  }

  pub flags_by_staying : AreStaying old (vertices_of known (map costs_in mid ++ later) needed) → (n : ℕ) → n < length old → IsFlaggedOrFree needed mid n
  flags_by_staying staying n there =
      ⊎_elim
      (λ (same : vertex all_after n ≡ vertex old n).
      ⊎_elim
      (λ (stays : vertex mid n ≡ vertex old n). inl (ap (λ (v : Vertex). v.needed) (stays ∙ sym same ∙ after_at n there)))
      (λ (now : IsFreedAs needed mid n). inr now.0)
      (freed n))
      (λ now. inr (ap (λ (v : Vertex). v.load) (sym (after_at n there)) ∙ now.0))
      (staying.each n there)
