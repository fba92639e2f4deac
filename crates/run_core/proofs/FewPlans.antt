-- A plan that is made by what has changed is one of the costs of all.
use Rattle.std.specs.Prelude.{◌↔◌, ◌<◌, ◌≤◌, Contains, IfOk, IfSome, IsSome, MatchOption, Result, Ok, Err, slice_get, slice_index_or}
use Rattle.std.proofs.Common.{true, false, get_or, ◌≡◌, ◌≢◌, ◌∙◌, ◌⊎◌, inl, inr, ⊎_elim, ◌+◌, ◌-◌, ℕ, zero, suc, List, [], ◌∷◌, ◌++◌, length, map, set, Option, Some, None, refl, sym, ap, ap₂, subst, arith}
use Rattle.std.proofs.Math.ListN.{get_or-eq_default}
use Rattle.std.proofs.lemmas.Bool.{cases_eq, cases_lt}
use Rattle.std.proofs.lemmas.List.{get_or-map, get_or-set_other, get_or-set_same, length-append, length-map, length-set}
use Rattle.job_graph.specs.PresentJobGraph.{AreWithin, present_job_graph}
use Rattle.job_graph.specs.Unfold.{Fault}
use Rattle.job_graph.specs.Unfolding.{Blames, fault_of}
use Rattle.job_graph.specs.declared.costs.Costs.{Costs}
use Rattle.job_graph.specs.declared.fault.UnfoldError.{UnfoldError}
use Rattle.job_graph.specs.declared.unfolding.Unfolding.{Unfolding}
use Rattle.plan_checker.specs.Graph.{no_vertex, vertex}
use Rattle.plan_checker.specs.declared.vertex.Vertex.{Vertex}
use Rattle.plan_keeper.specs.declared.planned.Planned.{Planned}
use Rattle.run_plan.specs.Brought.{AreFree, AreFreeing, CanBeBrought, StaysApart}
use Rattle.run_plan.specs.Planned.{IsPlanOf}
use Rattle.run_plan.specs.declared.kept.NextPlan.{NextPlan}
use Rattle.run_plan.specs.Touched.{costs_after, costs_in, graph_in, patched}
use Rattle.run_core.specs.declared.few.Few.{Few}
use Rattle.run_core.specs.declared.state.Course.{Course}
use Rattle.run_core.specs.declared.state.Given.{Given}
use Rattle.run_core.specs.inner.Course.{known_in, past_of}
use Rattle.run_core.specs.inner.Few.{AreFew}
use Rattle.run_core.specs.inner.Fits.{costs_by}
use Rattle.run_core.specs.inner.Planning.{AreCosts, IsNextAt, IsPlanAt, IsToldPlan, PlansNothing, costs_at, refused, unknown}
use Rattle.run_core.specs.inner.Touched.{IsTouched}
use Rattle.run_core.proofs.FewTouched.{get_before}
use Rattle.run_core.proofs.Fits.{fits_planned}

get_after : (costs later : List Costs) (k n : ℕ) → n ≡ length costs + k → slice_get (costs ++ later) n ≡ slice_get later k
get_after [] later k n is = ap (slice_get later) (omega (arith, is))
get_after (c ∷ costs) later k zero is = absurd (omega (arith, is))
get_after (c ∷ costs) later k (suc n) is = get_after costs later k n (omega (arith, is))

get_mapped : (graph : List Vertex) (n : ℕ) → n < length graph → slice_get (map costs_in graph) n ≡ Some (costs_in (vertex graph n))
get_mapped [] n within = absurd (omega (arith, within))
get_mapped (v ∷ graph) zero within = refl
get_mapped (v ∷ graph) (suc n) within = get_mapped graph n (omega (arith, within))

get_set_same : (costs : List Costs) (n : ℕ) (c : Costs) → n < length costs → slice_get (set costs n c) n ≡ Some c
get_set_same [] n c within = absurd (omega (arith, within))
get_set_same (x ∷ costs) zero c within = refl
get_set_same (x ∷ costs) (suc n) c within = get_set_same costs n c (omega (arith, within))

get_set_other : (costs : List Costs) (m n : ℕ) (c : Costs) → n ≢ m → slice_get (set costs m c) n ≡ slice_get costs n
get_set_other [] m n c differ = refl
get_set_other (x ∷ costs) zero zero c differ = absurd (differ refl)
get_set_other (x ∷ costs) zero (suc n) c differ = refl
get_set_other (x ∷ costs) (suc m) zero c differ = refl
get_set_other (x ∷ costs) (suc m) (suc n) c differ = get_set_other costs m n c (λ e. differ (ap suc e))

-- one of more numbers
contains_by : (m : ℕ) (ms : List ℕ) (n k : ℕ) → k < length (m ∷ ms) → slice_index_or (m ∷ ms) k n ≡ n → (m ≡ n) ⊎ Contains ms n
contains_by m ms n zero within is = inl is
contains_by m ms n (suc k) within is = inr (k, omega (arith, within), is)

length_patched : (costs : List Costs) (changed : List (ℕ × Costs)) → length (patched costs changed) ≡ length costs
length_patched costs [] = refl
length_patched costs (one ∷ changed) = length_patched (set costs one.0 one.1) changed ∙ length-set costs one.0 one.1

-- costs that are as they should be, but for those of these numbers
abbrev pub AreBut : (ℕ → Costs) → List ℕ → List Costs → Type 0
AreBut costs numbers list = (n : ℕ) → n < length list → ¬ Contains numbers n → slice_get list n ≡ Some (costs n)

patched_all : (costs : ℕ → Costs) (numbers : List ℕ) (list : List Costs) → AreBut costs numbers list → AreBut costs [] (patched list (map (λ (n : ℕ). (n, costs n)) numbers))
patched_all costs [] list are = are
patched_all costs (m ∷ ms) list are =
    patched_all costs ms (set list m (costs m))
    (λ n within left.
    let there : n < length list = omega (arith, within, length-set list m (costs m)) in
    ⊎_elim
    (λ (e : n ≡ m). subst (λ (i : ℕ). slice_get (set list m (costs m)) i ≡ Some (costs i)) (sym e) (get_set_same list m (costs m) (subst (λ (i : ℕ). i < length list) e there)))
    (λ (differ : n ≢ m).
    get_set_other list m n (costs m) differ
    ∙ are n there (λ one. ⊎_elim (λ (e : m ≡ n). differ (sym e)) (λ (more : Contains ms n). left more) (contains_by m ms n one.0 one.1 one.2)))
    (cases_eq n m))

none_there : (n : ℕ) → ¬ Contains [] n
none_there n one = absurd (omega (arith, one.1))

-- what the graph has, what has changed and the later costs are the costs of all
pub few_costs : (given : Given) (course : Course) (few : Few) → AreFew given course few →
    AreCosts given (past_of course) (length (known_in course.known)) (costs_after (graph_in course.planned) few.changed.items few.later.items)
few_costs given course few are =
    let costs : ℕ → Costs = costs_at given (past_of course) in
    let graph : List Vertex = graph_in course.planned in
    let first : List Costs = patched (map costs_in graph) few.changed.items in
    let changed : few.changed.items ≡ map (λ (n : ℕ). (n, costs n)) are.numbers = are.changed in
    let long : length first ≡ length graph = length_patched (map costs_in graph) few.changed.items ∙ length-map graph costs_in in
    let kept : AreBut costs are.numbers (map costs_in graph) =
    λ n within left.
    let there : n < length graph = omega (arith, within, length-map graph costs_in) in
    let fits = course.fits n there (λ t. left (subst (λ (touched : Option (List ℕ)). IsTouched touched n) are.touched t)) in
    let same : costs_by course.rates course.keep course.jobs course.lost.items course.rows n ≡ costs n =
    ap₂ (λ rates keep. costs_by rates keep course.jobs course.lost.items course.rows n) are.rates are.keep in
    get_mapped graph n there
    ∙ ap Some (ap₂ (λ (load : Option ℕ) (compute : ℕ). record { load = load; compute = compute }) fits.0 fits.1 ∙ same) in
    let all : AreBut costs [] first = subst (λ (list : List (ℕ × Costs)). AreBut costs [] (patched (map costs_in graph) list)) (sym changed) (patched_all costs are.numbers (map costs_in graph) kept) in
    record {
      as_many = length-append first few.later.items ∙ ap (λ (n : ℕ). n + length few.later.items) long ∙ are.later.as_many;
      each = λ n within.
          ⊎_elim
          (λ (before : n < length graph). get_before first few.later.items n (omega (arith, before, long)) ∙ all n (omega (arith, before, long)) (none_there n))
          (λ past.
          let k : ℕ = n - length graph in
          let at : length first + k ≡ n = omega (arith, past, long) in
          let from : length graph + k ≡ n = omega (arith, past) in
          get_after first few.later.items k n (sym at)
          ∙ are.later.each k (omega (arith, from, within)) ∙ ap (λ (i : ℕ). Some (costs i)) from)
          (cases_lt n (length graph));
    }

-- the plan that was made so
pub few_planned : (given : Given) (course : Course) (few : Few) → AreFew given course few → (kept : Unfolding) → course.known ≡ Some kept → (made : Planned) →
    IsPlanOf (present_job_graph kept.learned kept.known kept.outs (costs_after (graph_in course.planned) few.changed.items few.later.items)) made → IsPlanAt given course made
few_planned given course few are kept known made planned = record {
  kept = kept;
  known = known;
  costs = costs_after (graph_in course.planned) few.changed.items few.later.items;
  its_costs = few_costs given course few are;
  planned = planned;
}

-- a plan of a course is one of another with the same jobs, rows and archives
pub planned_alike : (given : Given) (old new : Course) (made : Planned) → new.jobs ≡ old.jobs → new.rows ≡ old.rows → new.lost.items ≡ old.lost.items → new.known ≡ old.known → IsPlanAt given new made →
    IsPlanAt given old made
planned_alike given old new made jobs rows lost known plan =
    let same : (n : ℕ) → costs_at given (past_of new) n ≡ costs_at given (past_of old) n =
    λ n. ap (λ states. costs_by given.rates given.options.keep states new.lost.items new.rows n) jobs
    ∙ ap (λ found. costs_by given.rates given.options.keep old.jobs new.lost.items found n) rows ∙ ap (λ keys. costs_by given.rates given.options.keep old.jobs keys old.rows n) lost in
    let count : length (known_in new.known) ≡ length (known_in old.known) = ap (λ k. length (known_in k)) known in
    record {
      kept = plan.kept;
      known = sym known ∙ plan.known;
      costs = plan.costs;
      its_costs = record { as_many = plan.its_costs.as_many ∙ count; each = λ n within. plan.its_costs.each n (omega (arith, within, count)) ∙ ap Some (same n) };
      planned = plan.planned;
    }

-- Where the last plan couldn't be brought up to date, the plan of all costs is made, since nothing was refused

abbrev refused_in : Option Unfolding → Option Fault
refused_in None = None
refused_in (Some kept) = kept.refused

nothing_refused : (course : Course) (kept : Unfolding) → course.known ≡ Some kept → kept.refused ≡ None → PlansNothing course → ⊥
nothing_refused course kept known going (unknown none) = let clash : Some kept ≡ None = sym known ∙ none in absurd cc
nothing_refused course kept known going (refused its fault is told) =
    let clash : Some fault ≡ None = sym told ∙ ap refused_in (sym is ∙ known) ∙ going in absurd cc

-- Whether the last plan can be brought up to date

same_by : (some others : List Costs) → length some ≡ length others → ((n : ℕ) → n < length some → slice_get some n ≡ slice_get others n) → some ≡ others
same_by [] [] many each = refl
same_by [] (y ∷ others) many each = absurd (omega (arith, many))
same_by (x ∷ some) [] many each = absurd (omega (arith, many))
same_by (x ∷ some) (y ∷ others) many each =
    let first : Some x ≡ Some y = each 0 (omega arith) in
    let head : x ≡ y = cc in
    ap (λ (c : Costs). c ∷ some) head ∙ ap (λ (list : List Costs). y ∷ list) (same_by some others (omega (arith, many)) (λ n within. each (suc n) (omega (arith, within))))

-- the costs of the known jobs are one list
costs_once : (given : Given) (course : Course) (count : ℕ) (some others : List Costs) → AreCosts given (past_of course) count some → AreCosts given (past_of course) count others → some ≡ others
costs_once given course count some others are those =
    same_by some others (are.as_many ∙ sym those.as_many)
    (λ n within. let below : n < count = omega (arith, within, are.as_many) in are.each n below ∙ sym (those.each n below))

-- each job costs what frees it, or what is there
abbrev FreesOrStays : (ℕ → Costs) → List Costs → Type 0
FreesOrStays costs list = (n : ℕ) → AreFree (costs n) ⊎ (get_or list n (costs n) ≡ costs n)

stays_set : (costs : ℕ → Costs) (list : List Costs) (m n : ℕ) → get_or list n (costs n) ≡ costs n → get_or (set list m (costs m)) n (costs n) ≡ costs n
stays_set costs list m n stays =
    ⊎_elim
    (λ (e : n ≡ m). subst (λ (i : ℕ). get_or (set list m (costs m)) i (costs i) ≡ costs i) (sym e) (at m))
    (λ (differ : n ≢ m). get_or-set_other list m n (costs m) (costs n) differ ∙ stays)
    (cases_eq n m)
  where
    at : (m : ℕ) → get_or (set list m (costs m)) m (costs m) ≡ costs m
    at m =
        ⊎_elim
        (λ (within : m < length list). get_or-set_same list m (costs m) (costs m) within)
        (λ (past : length list ≤ m). get_or-eq_default (set list m (costs m)) (costs m) (omega (arith, past, length-set list m (costs m))))
        (cases_lt m (length list))

freeing_all : (costs : ℕ → Costs) (numbers : List ℕ) (list : List Costs) → FreesOrStays costs list → AreFreeing list (map (λ (n : ℕ). (n, costs n)) numbers)
freeing_all costs [] list each = tt
freeing_all costs (m ∷ ms) list each = (
  each m,
  freeing_all costs ms (set list m (costs m)) (λ n. ⊎_elim (λ (free : AreFree (costs n)). inl free) (λ stays. inr (stays_set costs list m n stays)) (each n)),
)

frees_or_stays : (given : Given) (course : Course) (made : Planned) → IsPlanAt given course made → (old : List Vertex) → StaysApart old made.graph →
    FreesOrStays (costs_at given (past_of course)) (map costs_in old)
frees_or_stays given course made plan old stays n =
    ⊎_elim
    (λ (there : n < length old).
    let within : n < length made.graph = omega (arith, there, stays.staying.longer) in
    let paid = fits_planned given course made plan n within (none_there n) in
    let cost : Costs = costs_at given (past_of course) n in
    let is : costs_in (vertex made.graph n) ≡ cost = ap₂ (λ (load : Option ℕ) (compute : ℕ). record { load = load; compute = compute }) paid.0 paid.1 in
    let fits = stays.after.good n within in
    ⊎_elim
    (λ (same : vertex made.graph n ≡ vertex old n). inr (get_or-map costs_in old n no_vertex cost there ∙ ap costs_in (sym same) ∙ is))
    (λ freed.
    inl (record {
      free = sym paid.0 ∙ freed.0;
      within = subst AreWithin is (record { load = fits.load_cost; compute = fits.compute_cost });
    }))
    (stays.staying.each n there))
    (λ (past : length old ≤ n). inr (get_or-eq_default (map costs_in old) (costs_at given (past_of course) n) (omega (arith, past, length-map old costs_in))))
    (cases_lt n (length old))

frees_by : (given : Given) (course : Course) (made : Planned) → IsPlanAt given course made → (last : Option Planned) → CanBeBrought last made.graph →
    FreesOrStays (costs_at given (past_of course)) (map costs_in (graph_in last))
frees_by given course made plan None can = absurd can
frees_by given course made plan (Some old) can = frees_or_stays given course made plan old.graph can

-- a plan that was made by what has changed
module _ (given : Given) (course : Course) (few : Few) (are : AreFew given course few) (kept : Unfolding) (known : course.known ≡ Some kept) where
  abbrev graph_by : List (ℕ × Costs) → List Costs → List Vertex
  graph_by changed later = present_job_graph kept.learned kept.known kept.outs (costs_after (graph_in course.planned) changed later)

  -- where the last plan could be brought up to date, and was or was not
  abbrev IsExact : List (ℕ × Costs) → List Costs → Option Planned → Type 0
  IsExact changed later found =
      IsSome found ↔ (AreFreeing (map costs_in (graph_in course.planned)) changed × CanBeBrought course.planned (graph_by changed later))

  few_exact : (changed : List (ℕ × Costs)) (later : List Costs) → changed ≡ few.changed.items → later ≡ few.later.items → (found some : Option Planned) → found ≡ some → IsExact changed later found →
      IsExact few.changed.items few.later.items some
  few_exact changed later touched more found some is exact =
      subst (λ (f : Option Planned). IsExact few.changed.items few.later.items f) is
      (subst (λ (costs : List Costs). IsExact few.changed.items costs found) more
      (subst (λ (costs : List (ℕ × Costs)). IsExact costs later found) touched exact))

  -- the graph of any plan that is made then is the same
  graph_once : (made : Planned) → IsPlanAt given course made → made.graph ≡ graph_by few.changed.items few.later.items
  graph_once made plan =
      let both : Some plan.kept ≡ Some kept = sym plan.known ∙ known in
      let same : plan.kept ≡ kept = cc in
      plan.planned.its_graph
      ∙ ap (λ (k : Unfolding). present_job_graph k.learned k.known k.outs plan.costs) same
      ∙ ap (present_job_graph kept.learned kept.known kept.outs)
      (costs_once given course (length (known_in course.known)) plan.costs (costs_after (graph_in course.planned) few.changed.items few.later.items) plan.its_costs (few_costs given course few are))

  pub few_made : (changed : List (ℕ × Costs)) (later : List Costs) → changed ≡ few.changed.items → later ≡ few.later.items → (found : Option Planned) (made : Planned) → found ≡ Some made →
      IfSome found (IsPlanOf (present_job_graph kept.learned kept.known kept.outs (costs_after (graph_in course.planned) changed later))) →
      (IsSome found ↔ (AreFreeing (map costs_in (graph_in course.planned)) changed
      × CanBeBrought course.planned (present_job_graph kept.learned kept.known kept.outs (costs_after (graph_in course.planned) changed later)))) →
      IsNextAt given course (record { plan = made; brought = true })
  few_made changed later touched more found made is plan exact =
      let its : IsPlanAt given course made =
      few_planned given course few are kept known made
      (subst (λ (f : Option Planned). IfSome f (IsPlanOf (graph_by few.changed.items few.later.items))) is
      (subst (λ (costs : List Costs). IfSome found (IsPlanOf (graph_by few.changed.items costs))) more
      (subst (λ (costs : List (ℕ × Costs)). IfSome found (IsPlanOf (graph_by costs later))) touched plan))) in
      let now : IsExact few.changed.items few.later.items (Some made) = few_exact changed later touched more found (Some made) is exact in
      let can : CanBeBrought course.planned made.graph = subst (CanBeBrought course.planned) (sym (graph_once made its)) (now.0 refl).1 in
      record { plan = its; brought = ((λ yes. can), (λ it. refl)) }

  not_brought : IsExact few.changed.items few.later.items None → (made : Planned) → IsPlanAt given course made → CanBeBrought course.planned made.graph → ⊥
  not_brought exact made plan can =
      let freeing : AreFreeing (map costs_in (graph_in course.planned)) few.changed.items =
      subst (AreFreeing (map costs_in (graph_in course.planned))) (sym are.changed)
      (freeing_all (costs_at given (past_of course)) are.numbers (map costs_in (graph_in course.planned)) (frees_by given course made plan course.planned can)) in
      let some : false ≡ true = exact.1 (freeing, subst (CanBeBrought course.planned) (graph_once made plan) can) in
      absurd cc

  whole_made : (mid : Course) → mid.known ≡ course.known → kept.refused ≡ None → mid.jobs ≡ course.jobs → mid.rows ≡ course.rows → mid.lost.items ≡ course.lost.items → mid.planned ≡ None →
      IsExact few.changed.items few.later.items None → (made : Option NextPlan) → MatchOption made (PlansNothing mid) (IsNextAt given mid) → MatchOption made (PlansNothing course) (IsNextAt given course)
  whole_made mid same going jobs rows lost taken exact None nothing = absurd (nothing_refused mid kept (same ∙ known) going nothing)
  whole_made mid same going jobs rows lost taken exact (Some next) its =
      let plan : IsPlanAt given course next.plan = planned_alike given course mid next.plan jobs rows lost same its.plan in
      record {
        plan = plan;
        brought = (
          (λ yes. absurd (subst (λ (last : Option Planned). CanBeBrought last next.plan.graph) taken (its.brought.0 yes))),
          (λ can. absurd (not_brought exact next.plan plan can)),
        );
      }

  pub whole_ok : {E : Type 0} (mid : Course) (result : Result (Option NextPlan) E) → IfOk result (λ made. MatchOption made (PlansNothing mid) (IsNextAt given mid)) → mid.known ≡ course.known →
      kept.refused ≡ None → mid.jobs ≡ course.jobs → mid.rows ≡ course.rows → mid.lost.items ≡ course.lost.items → mid.planned ≡ None →
      (changed : List (ℕ × Costs)) (later : List Costs) → changed ≡ few.changed.items → later ≡ few.later.items → (found : Option Planned) → found ≡ None →
      (IsSome found ↔ (AreFreeing (map costs_in (graph_in course.planned)) changed
      × CanBeBrought course.planned (present_job_graph kept.learned kept.known kept.outs (costs_after (graph_in course.planned) changed later)))) →
      IfOk result (λ made. MatchOption made (PlansNothing course) (IsNextAt given course))
  whole_ok mid (Ok made) plan same going jobs rows lost taken changed later touched more found is exact =
      whole_made mid same going jobs rows lost taken (few_exact changed later touched more found None is exact) made plan
  whole_ok mid (Err error) plan same going jobs rows lost taken changed later touched more found is exact = tt

-- none was made, since what is known was refused
pub nothing_by_error : (given : Given) (course : Course) (kept : Unfolding) → course.known ≡ Some kept → (error : UnfoldError) → Blames kept.refused error → (made : Option NextPlan) →
    IsToldPlan (Err error) made → MatchOption made (PlansNothing course) (IsNextAt given course)
nothing_by_error given course kept known (UnfoldError.Refused fault) blames made is =
    subst (λ (m : Option NextPlan). MatchOption m (PlansNothing course) (IsNextAt given course)) (sym is) (refused kept (fault_of fault) known blames)
nothing_by_error given course kept known UnfoldError.OutOfMemory blames made is = absurd is
