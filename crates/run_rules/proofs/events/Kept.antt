-- Where nothing more can be fetched or staged and no child is in flight, all that the plan in force doesn't prune is at hand: what it loads
-- could be fetched, and the lowest job that it computes has parents of lower numbers alone. So each known job is resolved then, and what made a
-- file in a known output of the process is at hand.
use Rattle.std.specs.Prelude.{◌<◌, ◌≤◌, ◌||◌, not, IsSome, filter, is_some}
use Rattle.std.specs.List.{list_any}
use Rattle.std.proofs.Common.{◌≡◌, ◌≢◌, ◌∙◌, ◌+◌, ℕ, zero, suc, Bool, true, false, cond, List, [], length, Option, Some, None, refl, sym, ap, subst, arith}
use Rattle.std.proofs.lemmas.Bool.{or_left, or_parts, or_right}
use Rattle.std.proofs.lemmas.List.Elements.{All-contains}
use Rattle.plan_checker.specs.declared.vertex.Vertex.{Vertex}
use Rattle.plan_checker.specs.declared.plan.Mark.{Mark}
use Rattle.plan_checker.specs.declared.plan.Mark.TheVariants.{Load, Compute, Prune}
use Rattle.plan_checker.specs.Graph.{vertex}
use Rattle.plan_checker.specs.Plan.{IsAllowed, IsValid, mark}
use Rattle.staging.proofs.Planned.{value_plan}
use Rattle.staging.specs.declared.found.Found.{Found}
use Rattle.job_graph.specs.Jobs.{Job}
use Rattle.cwl_value.specs.Placed.{fields_moved}
use Rattle.job_graph.specs.Made.{any_made}
use Rattle.job_graph.specs.PresentJobGraph.{is_needed}
use Rattle.job_graph.specs.Unfold.{outputs_at}
use Rattle.job_graph.specs.Words.{JobPlace, is_same_place}
use Rattle.job_rows.specs.declared.row.Row.{Row}
use Rattle.run_rules.specs.declared.request.Pair.{Pair}
use Rattle.run_rules.specs.Allowed.{IsBusy, MayFetch}
use Rattle.run_rules.specs.Costs.{graph_at}
use Rattle.run_rules.specs.Delivered.{source_place}
use Rattle.run_rules.specs.Events.{Event, Progress, can_load, folder_at, in_flight, is_archived, is_at_hand, is_held, is_numbered, resolved, row_at, unfolding_at}
use Rattle.run_rules.specs.Folders.{in_folder}
use Rattle.run_rules.specs.Parents.{IsParent}
use Rattle.run_rules.specs.Plans.{InForce, PlansSoFar, number_of}
use Rattle.run_rules.specs.Run.{Goes}
use Rattle.run_rules.specs.Scene.{Scene}
use Rattle.run_rules.proofs.events.AtHand.{hand_is_resolved}
use Rattle.run_rules.proofs.Places.{same_place}
use Rattle.run_rules.proofs.events.Flights.{is_flying}
use Rattle.run_rules.proofs.events.Places.{AreApart, IsFound, IsJob, found_at, found_is, job_there, number_is}
use Rattle.run_rules.proofs.events.Planned.{PlansAt, jobs_in, mark_by_number, planned_there}
use Rattle.run_rules.proofs.events.Vertices.{its_load, its_need, its_parent, one_each}

-- what is needed is not pruned
not_pruned : (marks : List Mark) (v : Vertex) (m : Mark) → IsAllowed marks v m → v.needed ≡ true → m ≢ Prune
not_pruned marks v Load allowed needed pruned = cc
not_pruned marks v Compute allowed needed pruned = cc
not_pruned marks v Prune allowed needed pruned = let never : true ≡ false = sym needed ∙ allowed in cc

-- what is not held and has a load cost can be loaded
loads_by : (held can : Bool) (load : Option ℕ) → held ≡ false → IsSome (cond held (Some 0) (cond can load None)) → can ≡ true
loads_by true can load away some = absurd cc
loads_by false true load away some = refl
loads_by false false load away some = absurd cc

-- what can be loaded has a row
record HasRow (row : Option Row) : Type 0 where
  its : Row
  is : row ≡ Some its

row_there : (keep : Bool) (es : List Event) (row : Option Row) → is_archived keep es row ≡ true → HasRow row
row_there keep es None can = absurd cc
row_there keep es (Some row) can = record { its = row; is = refl }

module _ (s : Scene) (es : List Event) (marks : List Mark) (valid : IsValid (graph_at s es) marks) where
  abbrev known : List Job
  known = (unfolding_at s es).jobs

  module _ (n : ℕ) (job : Job) (it : IsJob known n job) where
    pub its_mark_is_allowed : IsAllowed marks (vertex (graph_at s es) n) (mark marks n)
    its_mark_is_allowed = valid.allowed n (omega (arith, it.within, one_each s es))

    allowed_as : (m : Mark) → mark marks n ≡ m → IsAllowed marks (vertex (graph_at s es) n) m
    allowed_as m is = subst (λ (x : Mark). IsAllowed marks (vertex (graph_at s es) n) x) is its_mark_is_allowed

    pub needed_is_kept : is_needed (resolved es) (unfolding_at s es).outs job.place ≡ true → mark marks n ≢ Prune
    needed_is_kept needed = not_pruned marks (vertex (graph_at s es) n) (mark marks n) its_mark_is_allowed (its_need s es n job it ∙ needed)

    -- a job that it loads and that is not held can be loaded
    pub loaded_can : mark marks n ≡ Load → is_held es job.place ≡ false → can_load s es job.place ≡ true
    loaded_can is away =
        loads_by (is_held es job.place) (can_load s es job.place) _ away (subst (λ (load : Option ℕ). IsSome load) (its_load s es n job it) (allowed_as Load is))

    -- and the parents of one that it computes are kept
    pub computed_keeps : mark marks n ≡ Compute → (p : ℕ) (parent : Job) → IsJob known p parent → p < n → any_made parent.place job.inputs ≡ true → mark marks p ≢ Prune
    computed_keeps is p parent there below made =
        All-contains (λ (q : ℕ). mark marks q ≢ Prune) (vertex (graph_at s es) n).parents p (allowed_as Compute is) (its_parent s es n job it p parent there below made)

-- what may be fetched can be loaded
pub fetched_can : (s : Scene) {t : List Pair} {f : Progress} {plans : PlansSoFar} → Goes s (InForce s) t f plans → AreApart (jobs_in s f) → (place : JobPlace) (key : List ℕ) (number : ℕ)
    (files : List Found) → MayFetch s f plans.marks place key number files → can_load s f.events place ≡ true
fetched_can s {f = f} {plans = plans} goes apart place key number files may =
    let it : IsFound (jobs_in s f) place may.job = found_is (jobs_in s f) place may.job may.known in
    let at : may.job.place ≡ place = same_place may.job.place place it.same in
    let away : is_held f.events may.job.place ≡ false = ap (is_held f.events) at ∙ may.not_held in
    let now : PlansAt s f plans =
    planned_there s it.number may.job goes may.free.still.idle may.free.still.collects may.free.still.unsettled may.free.looked_up it.there
    (or_parts (is_flying (in_flight f.events) may.job.place) (is_at_hand f.events may.job.place) away).1 in
    let its_number : number_of place (jobs_in s f) ≡ it.number =
    ap (λ (p : JobPlace). number_of p (jobs_in s f)) (sym at) ∙ number_is (jobs_in s f) apart it.number may.job it.there in
    ap (can_load s f.events) (sym at)
    ∙ loaded_can s f.events plans.marks now.least.cheapest.valid it.number may.job it.there (ap (λ m. mark plans.marks m) (sym its_number) ∙ may.loaded) away

module _ (s : Scene) (f : Progress) (marks : List Mark) (slots : 1 ≤ s.options.slots) (apart : AreApart (jobs_in s f)) (busy : IsBusy s f marks) (landed : in_flight f.events ≡ []) where
  -- what is held is at hand
  hand_is_held : (place : JobPlace) → is_held f.events place ≡ is_at_hand f.events place
  hand_is_held place = ap (λ (flying : List (ℕ × JobPlace)). list_any (λ (x : ℕ × JobPlace). is_same_place x.1 place) flying || is_at_hand f.events place) landed

  module _ (valid : IsValid (graph_at s f.events) marks) where
    -- what is loaded could be fetched
    not_loaded : (n : ℕ) (job : Job) → IsJob (jobs_in s f) n job → is_held f.events job.place ≡ false → mark marks n ≡ Load → ⊥
    not_loaded n job it away is =
        let can : can_load s f.events job.place ≡ true = loaded_can s f.events marks valid n job it is away in
        let row : HasRow (row_at f.events job.place) = row_there s.options.keep f.events (row_at f.events job.place) can in
        busy.no_fetch job.place row.its.key (length (filter is_numbered f.events) + 1) row.its.files
        (record {
          free = busy.free;
          job = job;
          known = found_at (jobs_in s f) apart n job it;
          loaded = mark_by_number s f marks n job apart it ∙ is;
          not_held = away;
          row = row.its;
          found = row.is;
          its_key = refl;
          its_files = refl;
          next_number = refl;
        })

    -- what is computed could be staged, where its parents are at hand
    not_computed : (n : ℕ) (job : Job) → IsJob (jobs_in s f) n job → is_held f.events job.place ≡ false → mark marks n ≡ Compute →
        ((parent : Job) → IsParent (jobs_in s f) job parent → is_at_hand f.events parent.place ≡ true) → ⊥
    not_computed n job it away is parents =
        let made = value_plan false (in_folder s.options.work (length (filter is_numbered f.events) + 1)) (fields_moved (source_place (folder_at s f.events)) job.inputs) in
        busy.no_stage job.place made.0 (length (filter is_numbered f.events) + 1)
        (record {
          free = busy.free;
          job = job;
          known = found_at (jobs_in s f) apart n job it;
          computed = mark_by_number s f marks n job apart it ∙ is;
          not_held = away;
          parents = parents;
          slot = omega (arith, slots, ap length landed);
          next_number = refl;
          staged = made.1;
        })

    abbrev IsThereBefore : ℕ → Type 0
    IsThereBefore n = (p : ℕ) (parent : Job) → p < n → IsJob (jobs_in s f) p parent → mark marks p ≢ Prune → is_at_hand f.events parent.place ≡ true

    nothing_left : (n : ℕ) (job : Job) → IsJob (jobs_in s f) n job → is_held f.events job.place ≡ false → mark marks n ≢ Prune → IsThereBefore n → (m : Mark) → mark marks n ≡ m → ⊥
    nothing_left n job it away kept before Load is = not_loaded n job it away is
    nothing_left n job it away kept before Prune is = kept is
    nothing_left n job it away kept before Compute is =
        not_computed n job it away is
        (λ parent its.
        let there : IsJob (jobs_in s f) its.number parent = job_there (jobs_in s f) its.number parent its.known in
        let below : its.number < n = omega (arith, its.before, number_is (jobs_in s f) apart n job it) in
        before its.number parent below there (computed_keeps s f.events marks valid n job it is its.number parent there below its.made))

    there_by : (n : ℕ) (job : Job) → IsJob (jobs_in s f) n job → mark marks n ≢ Prune → IsThereBefore n → (held : Bool) → is_held f.events job.place ≡ held → is_at_hand f.events job.place ≡ true
    there_by n job it kept before true is = sym (hand_is_held job.place) ∙ is
    there_by n job it kept before false is = absurd (nothing_left n job it is kept before (mark marks n) refl)

    there_below : (k n : ℕ) (job : Job) → n < k → IsJob (jobs_in s f) n job → mark marks n ≢ Prune → is_at_hand f.events job.place ≡ true
    there_below zero n job below it kept = absurd (omega (arith, below))
    there_below (suc k) n job below it kept =
        there_by n job it kept (λ p parent less there its. there_below k p parent (omega (arith, less, below)) there its) (is_held f.events job.place) refl

    pub there_if_kept : (n : ℕ) (job : Job) → IsJob (jobs_in s f) n job → mark marks n ≢ Prune → is_at_hand f.events job.place ≡ true
    there_if_kept n job it kept = there_below (suc n) n job (omega arith) it kept

module _ (s : Scene) {t : List Pair} {f : Progress} {plans : PlansSoFar} (goes : Goes s (InForce s) t f plans) (slots : 1 ≤ s.options.slots) (apart : AreApart (jobs_in s f))
    (busy : IsBusy s f plans.marks) (landed : in_flight f.events ≡ []) where
  valid_there : (n : ℕ) (job : Job) → IsJob (jobs_in s f) n job → is_at_hand f.events job.place ≡ false → IsValid (graph_at s f.events) plans.marks
  valid_there n job it away =
      let now : PlansAt s f plans =
      planned_there s n job goes busy.free.still.idle busy.free.still.collects busy.free.still.unsettled busy.free.looked_up it away in
      now.least.cheapest.valid

  there_if_needed : (n : ℕ) (job : Job) → IsJob (jobs_in s f) n job → is_needed (resolved f.events) (unfolding_at s f.events).outs job.place ≡ true → (there : Bool) →
      is_at_hand f.events job.place ≡ there → is_at_hand f.events job.place ≡ true
  there_if_needed n job it needed true is = is
  there_if_needed n job it needed false is =
      let valid : IsValid (graph_at s f.events) plans.marks = valid_there n job it is in
      there_if_kept s f plans.marks slots apart busy landed valid n job it (needed_is_kept s f.events plans.marks valid n job it needed)

  -- each needed job is at hand
  pub needed_there : (n : ℕ) (job : Job) → IsJob (jobs_in s f) n job → is_needed (resolved f.events) (unfolding_at s f.events).outs job.place ≡ true → is_at_hand f.events job.place ≡ true
  needed_there n job it needed = there_if_needed n job it needed (is_at_hand f.events job.place) refl

  -- what made a file in a known output of the process is at hand
  pub made_there : (n : ℕ) (job : Job) → IsJob (jobs_in s f) n job → any_made job.place (unfolding_at s f.events).outs ≡ true → is_at_hand f.events job.place ≡ true
  made_there n job it made =
      needed_there n job it (or_right (not (is_some (outputs_at (resolved f.events) job.place))) (any_made job.place (unfolding_at s f.events).outs) made)

  -- each known job is resolved
  resolved_by : (n : ℕ) (job : Job) → IsJob (jobs_in s f) n job → (its : Bool) → is_some (outputs_at (resolved f.events) job.place) ≡ its →
      is_some (outputs_at (resolved f.events) job.place) ≡ true
  resolved_by n job it true is = is
  resolved_by n job it false is =
      hand_is_resolved s goes job.place
      (needed_there n job it (or_left (not (is_some (outputs_at (resolved f.events) job.place))) (any_made job.place (unfolding_at s f.events).outs) (ap not is)))

  pub all_resolved : (n : ℕ) (job : Job) → IsJob (jobs_in s f) n job → is_some (outputs_at (resolved f.events) job.place) ≡ true
  all_resolved n job it = resolved_by n job it (is_some (outputs_at (resolved f.events) job.place)) refl
