-- The result's files are copied to their targets: the run has ended, and what was done without is planned once more.
use Rattle.std.specs.Prelude.{◌≤◌, ◌||◌, ◌&&◌, not}
use Rattle.std.specs.List.{list_all, list_any}
use Rattle.std.proofs.Common.{◌≡◌, ◌≢◌, ◌∙◌, ◌+◌, ℕ, Bool, true, false, cond, map, List, [], ◌∷◌, ◌++◌, length, None, Option, Some, option_map, refl, sym, ap, subst, append-nil, length-append}
use Rattle.std.proofs.lemmas.Bool.{or_parts}
use Rattle.std.proofs.lemmas.List.Folds.{list_any-append}
use Rattle.std.proofs.lemmas.List.Sums.{fold-append}
use Rattle.plan_checker.specs.Least.{IsLeast}
use Rattle.plan_checker.specs.Plan.{mark}
use Rattle.plan_checker.specs.declared.plan.Mark.{Mark}
use Rattle.plan_checker.specs.declared.plan.Mark.TheVariants.{Compute, Load, Prune}
use Rattle.plan_checker.specs.declared.vertex.Vertex.{Vertex}
use Rattle.plan_checker.proofs.OneLeast.{least_plans_are_equal}
use Rattle.proc_host.specs.declared.call.HostAnswer.{HostAnswer}
use Rattle.proc_host.specs.declared.call.HostRequest.{HostRequest}
use Rattle.staging.specs.Plan.{IsPlan}
use Rattle.staging.specs.declared.plan.StagePlan.{StagePlan}
use Rattle.job_graph.specs.Jobs.{Job}
use Rattle.job_graph.specs.PresentJobGraph.{present_job_graph}
use Rattle.job_graph.specs.Unfold.{Resolved, Unfolded}
use Rattle.job_graph.specs.Words.{Fields, JobPlace, is_same_place}
use Rattle.job_graph.specs.declared.costs.Costs.{Costs}
use Rattle.job_rows.specs.declared.row.Row.{Row}
use Rattle.run_rules.specs.declared.request.Pair.{Pair}
use Rattle.run_rules.specs.Allowed.{IsBusy, IsFree, MayDeliver}
use Rattle.run_rules.specs.Costs.{cost_to_compute, cost_to_fetch, costs_at as its_costs, graph_at}
use Rattle.run_rules.specs.Delivered.{located, sources}
use Rattle.run_rules.specs.End.{succeeds_with}
use Rattle.run_rules.specs.EndsSo.{copied, succeeds}
use Rattle.run_rules.specs.Folders.{left_folder}
use Rattle.run_rules.specs.Events.{Event, Progress, are_looked_up, folder_at, has_no_find, in_flight, is_archived, is_at_hand, is_fetched, is_held, is_lost, is_reusable, loses, nothing_due, number_at, resolved, result_delivered, row_at, row_if, unfolding_at}
use Rattle.run_rules.specs.Plans.{InForce, PlansSoFar, mark_at}
use Rattle.run_rules.specs.Run.{Goes}
use Rattle.run_rules.specs.Scene.{Scene}
use Rattle.run_rules.specs.Steps.{call, delivers, progress_with}
use Rattle.run_rules.proofs.Places.{same_place}
use Rattle.run_rules.proofs.events.Flights.{is_flying}
use Rattle.run_rules.proofs.events.Grows.{Comes, comes_on}
use Rattle.run_rules.proofs.events.Kept.{there_if_kept}
use Rattle.run_rules.proofs.events.Known.{measured_still, unfolding_stays}
use Rattle.run_rules.proofs.events.Lookups.{looked_up_as_before}
use Rattle.run_rules.proofs.events.Places.{AreApart, IsFound, IsJob, found_is}
use Rattle.run_rules.proofs.events.Planned.{PlansAt, jobs_in, mark_by_number, planned_there, planning_there}
use Rattle.run_rules.proofs.events.Readings.{delivered_after, fetched_after, in_flight_after, is_at_hand_after, number_after, resolved_after}
use Rattle.run_rules.proofs.events.Settled.{settled_quietly}
use Rattle.run_core.specs.declared.state.Course.{Course}
use Rattle.run_core.specs.declared.state.Given.{Given}
use Rattle.run_core.specs.declared.state.Turn.{Turn}
use Rattle.run_core.specs.inner.Course.{Past, known_in, past_of}
use Rattle.run_core.specs.inner.Inside.{rates_of}
use Rattle.run_core.specs.inner.Keeps.{Reflects}
use Rattle.run_core.specs.inner.Planning.{Replans}
use Rattle.run_core.specs.inner.Standing.{IsAt, KeepsPlans, Runs, ended}
use Rattle.run_core.specs.inner.Turn.{succeeds as succeeds_so}
use Rattle.run_core.proofs.Plans.{known_replanned, replanned}
use Rattle.run_core.proofs.events.Reflecting.{Laws, collects_after, no_notes_more}
use Rattle.run_core.proofs.going.Picking.{all_known, unsettled}
use Rattle.run_core.proofs.going.Planning.{HasJob, IsPlanned, MayPlan, graph_same, job_of_number, none_away, not_refused, plan_by}

module _ (s : Scene) (given : Given) (same : given.options ≡ s.options) (rated : given.rates ≡ rates_of given.options) (laws : Laws s) (some : 1 ≤ s.options.slots) (t : List Pair)
    (counted : given.answers ≡ length t + 1) (f : Progress) (plans : PlansSoFar) (goes : Goes s (InForce s) t f plans) (old : Course) (planned : KeepsPlans plans (past_of old))
    (plan : StagePlan) (r : Reflects s f.events old None) (may : MayDeliver s f plans.marks [] plan) (going : old.end ≡ None) where
  abbrev e : Event
  e = result_delivered plan

  abbrev pair : Pair
  pair = call [] (HostRequest.Deliver plan) HostAnswer.Done

  abbrev later : Progress
  later = progress_with f nothing_due (result_delivered plan ∷ [])

  same_known : unfolding_at s later.events ≡ unfolding_at s f.events
  same_known = unfolding_stays s f.events (e ∷ []) refl

  whole_then : known_in old.known ≡ jobs_in s later
  whole_then = all_known s f.events old None r going ∙ ap (λ (u : Unfolded). u.jobs) (sym same_known)

  -- What is read of the events stays

  or_none : (b : Bool) → (b || (false || false)) ≡ b
  or_none true = refl
  or_none false = refl

  same_hand : (place : JobPlace) → is_at_hand later.events place ≡ is_at_hand f.events place
  same_hand place = is_at_hand_after f.events (e ∷ []) place ∙ or_none (is_at_hand f.events place)

  same_held : (place : JobPlace) → is_held later.events place ≡ is_held f.events place
  same_held place =
      ap (λ (flying : List (ℕ × JobPlace)). list_any (λ (x : ℕ × JobPlace). is_same_place x.1 place) flying || is_at_hand later.events place) (in_flight_after f.events (e ∷ []))
      ∙ ap (λ b. list_any (λ (x : ℕ × JobPlace). is_same_place x.1 place) (in_flight f.events) || b) (same_hand place)

  same_row : (place : JobPlace) → row_at later.events place ≡ row_at f.events place
  same_row place = fold-append (row_if place) None f.events (e ∷ [])

  archived_same : (row : Option Row) → is_archived s.options.keep later.events row ≡ is_archived s.options.keep f.events row
  archived_same None = refl
  archived_same (Some row) =
      ap (λ b. s.options.keep && row.archived && not b) (list_any-append (loses row.key) f.events (e ∷ []) ∙ or_none (is_lost f.events row.key))

  abbrev costs_by : Bool → Option Row → Bool → Costs
  costs_by held row can = record { load = cond held (Some 0) (cond can (option_map (cost_to_fetch s.options) row) None); compute = cost_to_compute row }

  costs_still : (job : Job) → its_costs s later.events job ≡ its_costs s f.events job
  costs_still job =
      ap (λ b. costs_by b (row_at later.events job.place) (is_archived s.options.keep later.events (row_at later.events job.place))) (same_held job.place)
      ∙ ap (λ (row : Option Row). costs_by (is_held f.events job.place) row (is_archived s.options.keep later.events row)) (same_row job.place)
      ∙ ap (λ b. costs_by (is_held f.events job.place) (row_at f.events job.place) b) (archived_same (row_at f.events job.place))

  same_graph : graph_at s later.events ≡ graph_at s f.events
  same_graph =
      ap (λ (learned : List Resolved). present_job_graph learned (unfolding_at s later.events).jobs (unfolding_at s later.events).outs (map (its_costs s later.events) (unfolding_at s later.events).jobs))
      (resolved_after f.events (e ∷ []) ∙ append-nil (resolved f.events))
      ∙ ap (λ (u : Unfolded). present_job_graph (resolved f.events) u.jobs u.outs (map (its_costs s later.events) u.jobs)) same_known
      ∙ ap (λ (costs : Job → Costs). present_job_graph (resolved f.events) (unfolding_at s f.events).jobs (unfolding_at s f.events).outs (map costs (unfolding_at s f.events).jobs))
      (λ i job. costs_still job i)

  -- no row is looked for any more
  looked_then : are_looked_up s later.events ≡ true
  looked_then =
      ap (λ (u : Unfolded). list_all (has_no_find (f.events ++ e ∷ [])) u.jobs) same_known
      ∙ (λ i. list_all (λ (job : Job). not (is_reusable job) || looked_up_as_before f.events (e ∷ []) job.place refl i) (unfolding_at s f.events).jobs)
      ∙ may.busy.free.looked_up

  free_then : IsFree s later
  free_then = record {
    still = record {
      idle = refl;
      collects = collects_after s f.events e r.collects refl;
      unsettled = settled_quietly s f.events (e ∷ []) refl ∙ unsettled s f.events old None r going;
    };
    measured = measured_still s f.events (e ∷ []) (r.measured going);
    looked_up = looked_then;
  }

  -- A plan is made once more where some job was done without

  further : Comes s (t ++ pair ∷ []) later plans
  further = comes_on s pair nothing_due (e ∷ []) goes may (delivers [] plan)

  may_then : MayPlan s given same rated later old
  may_then = record {
    due = λ away.
        let has : HasJob (known_in old.known) away.number = job_of_number (known_in old.known) away.number away.within in
        planning_there s later away.number has.job refl free_then.still.collects free_then.still.unsettled looked_then
        (subst (λ (jobs : List Job). IsJob jobs away.number has.job) whole_then has.it)
        (same_hand has.job.place ∙ r.keeps.books.hand away.number has.job has.it ∙ away.away);
    not_due = λ all. none_away s given same rated later (known_in old.known) whole_then (λ n job it. same_hand job.place ∙ r.keeps.books.hand n job it ∙ all n it.within);
    graphs = λ kept costs is are. graph_same s given same rated f.events old r going kept costs is are ∙ sym same_graph;
    some = not_refused s given same rated f.events old r going;
  }

  planned_then : {new : Course} → Replans given old new → IsPlanned s given same rated (t ++ pair ∷ []) later new
  planned_then replans = plan_by s given same rated later plans further (counted ∙ sym (length-append t (pair ∷ []))) old planned may_then replans

  -- Nothing is left to be done

  module _ (now : PlansSoFar) (now_goes : Goes s (InForce s) (t ++ pair ∷ []) later now) where
    apart : AreApart (jobs_in s f)
    apart = subst AreApart (all_known s f.events old None r going) r.keeps.books.apart

    apart_then : AreApart (jobs_in s later)
    apart_then = subst AreApart whole_then r.keeps.books.apart

    -- what isn't held is done without: the plan is the one before, and all that it doesn't prune is at hand
    not_kept : (n : ℕ) (job : Job) → IsJob (jobs_in s later) n job → is_held later.events job.place ≡ false → mark now.marks n ≢ Prune → ⊥
    not_kept n job it away kept =
        let before : IsJob (jobs_in s f) n job = subst (λ (u : Unfolded). IsJob u.jobs n job) same_known it in
        let not_there : is_at_hand f.events job.place ≡ false =
        (or_parts (is_flying (in_flight f.events) job.place) (is_at_hand f.events job.place) (sym (same_held job.place) ∙ away)).1 in
        let at_first : PlansAt s f plans =
        planned_there s n job goes may.busy.free.still.idle may.busy.free.still.collects may.busy.free.still.unsettled may.busy.free.looked_up before not_there in
        let at_last : PlansAt s later now =
        planned_there s n job now_goes refl free_then.still.collects free_then.still.unsettled looked_then it (same_hand job.place ∙ not_there) in
        let same_marks : now.marks ≡ plans.marks =
        least_plans_are_equal (graph_at s f.events) now.marks plans.marks (subst (λ (g : List Vertex). IsLeast g now.marks) same_graph at_last.least) at_first.least in
        let there : is_at_hand f.events job.place ≡ true =
        there_if_kept s f plans.marks some apart may.busy may.landed at_first.least.cheapest.valid n job before
        (λ pruned. kept (ap (λ (marks : List Mark). mark marks n) same_marks ∙ pruned)) in
        let never : true ≡ false = sym there ∙ not_there in cc

    not_marked : (m : Mark) → m ≢ Prune → (place : JobPlace) (job : Job) (found : IsFound (jobs_in s later) place job) → mark_at s now.marks later.events place ≡ m →
        is_held later.events place ≡ false → ⊥
    not_marked m other place job found marked away =
        let at : job.place ≡ place = same_place job.place place found.same in
        not_kept found.number job found.there (ap (is_held later.events) at ∙ away)
        (λ pruned. other (sym marked ∙ ap (mark_at s now.marks later.events) (sym at) ∙ mark_by_number s later now.marks found.number job apart_then found.there ∙ pruned))

    busy_then : IsBusy s later now.marks
    busy_then = record {
      free = free_then;
      no_fetch = λ place its_key number files its.
          not_marked Load (λ same_mark. cc) place its.job (found_is (jobs_in s later) place its.job its.known) its.loaded its.not_held;
      no_stage = λ place its_plan number its.
          not_marked Compute (λ same_mark. cc) place its.job (found_is (jobs_in s later) place its.job its.known) its.computed its.not_held;
    }

    same_numbers : number_at f.events ≡ number_at (f.events ++ e ∷ [])
    same_numbers = λ i place. sym (number_after f.events (e ∷ []) place) i

    same_fetches : is_fetched f.events ≡ is_fetched (f.events ++ e ∷ [])
    same_fetches = λ i place. sym (fetched_after f.events (e ∷ []) place) i

    same_folders : (outputs : Fields) (its_plan : StagePlan) → IsPlan true s.options.outdir (sources (folder_at s f.events) outputs) its_plan →
        IsPlan true s.options.outdir (sources (folder_at s (f.events ++ e ∷ [])) outputs) its_plan
    same_folders outputs its_plan is =
        subst (λ (fetched : JobPlace → Bool). IsPlan true s.options.outdir (sources (λ place. left_folder s.options.work (fetched place) (number_at (f.events ++ e ∷ []) place)) outputs) its_plan) same_fetches
        (subst (λ (number : JobPlace → ℕ). IsPlan true s.options.outdir (sources (λ place. left_folder s.options.work (is_fetched f.events place) (number place)) outputs) its_plan) same_numbers is)

    ended_then : (new : Course) → (past_of new).notes ≡ (past_of old).notes → new.known ≡ old.known → IsAt s later now.marks new (succeeds_so (located plan.value))
    ended_then new same_notes known =
        ended (succeeds_with may.outputs plan.value)
        (succeeds may.outputs plan.value busy_then (in_flight_after f.events (e ∷ []) ∙ may.landed)
        (ap (λ (u : Unfolded). u.result) same_known ∙ may.result)
        (copied plan (delivered_after f.events (e ∷ []))
        (same_folders may.outputs plan may.delivery)))
        (same_notes ∙ r.notes ∙ sym (no_notes_more f.events e refl)) (λ still. ap known_in known ∙ whole_then)

  pub delivery_goes_on : (turn : Turn) (new : Course) → (turn ≡ succeeds_so (located plan.value)) × Replans given old new →
      Runs s (t ++ call [] (HostRequest.Deliver plan) HostAnswer.Done ∷ []) new turn
  delivery_goes_on turn new so =
      let now : IsPlanned s given same rated (t ++ pair ∷ []) later new = planned_then so.1 in
      record {
        happened = later;
        plans = now.plans_now;
        goes = now.goes;
        planned = now.kept;
        at = subst (IsAt s later now.plans_now.marks new) (sym so.0)
            (ended_then now.plans_now now.goes new (replanned (λ (p : Past). p.notes) (λ after made past. refl) given old so.1) (known_replanned given old so.1));
      }
