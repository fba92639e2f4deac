-- Where nothing is due, what the machine turns to is what its run may ask then, or how it ends.
use Rattle.std.specs.Prelude.{Ok, ◌<◌, ◌≤◌, ◌≢◌, ◌&&◌, not, Contains, IsSome, is_some, Result, option_map, unwrap_or, slice_get}
use Rattle.std.proofs.Common.{◌≡◌, ◌∙◌, ◌+◌, ℕ, Bool, true, false, List, [], ◌∷◌, length, Option, Some, None, refl, sym, ap, subst, arith}
use Rattle.plan_checker.specs.Plan.{mark}
use Rattle.plan_checker.specs.declared.plan.Mark.{Mark}
use Rattle.plan_checker.specs.declared.plan.Mark.TheVariants.{Compute, Load, Prune}
use Rattle.staging.specs.Plan.{IsPlan}
use Rattle.job_graph.specs.declared.unfolding.Unfolding.{Unfolding}
use Rattle.job_graph.specs.Jobs.{Job, Walker}
use Rattle.cwl_value.specs.Placed.{fields_moved, value_moved}
use Rattle.job_graph.specs.Unfold.{Resolved, Unfolded, outputs_at, unfolded}
use Rattle.job_graph.specs.Words.{Fields, JobPlace, last_by_name}
use Rattle.run_rules.specs.declared.outcome.Outcome.{Outcome}
use Rattle.run_rules.specs.declared.outcome.RunFault.{RunFault}
use Rattle.run_rules.specs.declared.request.Pair.{Pair}
use Rattle.run_rules.specs.declared.setting.Options.{Options}
use Rattle.run_rules.specs.Allowed.{IsBusy, IsFree, IsOpen}
use Rattle.run_rules.specs.Delivered.{any_file, located, source_place, sources}
use Rattle.run_rules.specs.End.{End, settled, succeeds_with}
use Rattle.run_rules.specs.EndsSo.{fails, no_file, succeeds}
use Rattle.run_rules.specs.Events.{Event, Progress, in_flight, is_at_hand, folder_at, measures, nothing_due, number_at, resolved, unfolding_at, are_looked_up, can_load as may_load, has_no_find, is_archived, is_fetched, is_lost, is_reusable}
use Rattle.run_rules.specs.Folders.{in_folder, left_folder}
use Rattle.run_rules.specs.Plans.{InForce, PlansSoFar}
use Rattle.run_rules.specs.Reports.{outcome_of}
use Rattle.run_rules.specs.Run.{Goes}
use Rattle.run_rules.specs.Scene.{Scene}
use Rattle.run_rules.proofs.PlacesErased.{map_by_name}
use Rattle.run_rules.proofs.events.Asks.{NoneMayFetch, may_collect, may_collect_settled, may_deliver, may_find}
use Rattle.run_rules.proofs.events.Course.{Course as Books, Keeps as AreKept}
use Rattle.run_rules.proofs.events.Flights.{is_flying}
use Rattle.run_rules.proofs.events.Known.{unfolding_when}
use Rattle.run_rules.proofs.events.Places.{IsJob, AreApart}
use Rattle.run_rules.proofs.events.Kept.{all_resolved, loaded_can}
use Rattle.run_rules.proofs.events.Planned.{PlansAt, jobs_in, planned_there}
use Rattle.run_rules.proofs.events.Tally.{readings}
use Rattle.run_rules.proofs.events.Turns.{busy_when_taken, none_flies}
use Rattle.run_rules.proofs.events.Ready.{AreParentsThere, NoneIsLoaded, NoneIsReady}
use Rattle.run_rules.proofs.events.Staged.{busy_when_none_ready, none_may_fetch, ready_may_stage, waiting_may_fetch}
use Rattle.run_rules.proofs.events.Lookups.{all_looked_up}
use Rattle.std.proofs.lemmas.Option.{slice_get-get_or}
use Rattle.std.specs.List.{list_all}
use Rattle.run_core.specs.declared.state.Course.{Course}
use Rattle.run_core.specs.declared.state.Given.{Given}
use Rattle.run_core.specs.declared.state.Turn.{Turn}
use Rattle.run_core.specs.inner.Course.{families_in, fetched_in, is_lost_in, known_in, number_in, past_of}
use Rattle.run_core.specs.inner.JobStates.{IsLowest, NoneReady, is_ready, is_there, waits_in}
use Rattle.run_core.specs.inner.Marks.{is_load, marks_in}
use Rattle.run_core.specs.inner.Keeps.{Reflects, course_of}
use Rattle.run_core.specs.inner.Knows.{IsKnown, outputs_in}
use Rattle.run_core.specs.inner.Picks.{Chooses, Delivers, DeliversFiles, Finds, IsNextToFind, NoneToFind, NoneToStage, Stages, delivers, fetches, has_result, none_ready, slots_full, sources_in, stages, succeeds_at_once, waits_for_one}
use Rattle.run_core.specs.inner.Fetches.{Fetches, IsNextToFetch, NoneLoads, NoneToFetch, archived_in, can_load, loads_in, none_kept, none_loads}
use Rattle.run_core.specs.inner.FoundRows.{row_in}
use Rattle.job_rows.specs.declared.row.Row.{Row}
use Rattle.std.proofs.lemmas.Bool.{and_parts, or_parts}
use Rattle.run_core.proofs.events.Tried.{untried}
use Rattle.run_core.specs.inner.Standing.{IsAt, KeepsPlans, collecting, delivering, ended, fetching, staging, finding}
use Rattle.run_core.specs.inner.Turn.{collects, ends}
use Rattle.run_core.proofs.events.Keeping.{none_settled}
use Rattle.run_core.proofs.PlansKept.{marks_kept}
use Rattle.run_core.proofs.events.Families.{as_many, ready_computes, ready_if, ready_parents, ready_waits}
use Rattle.run_core.proofs.events.Numbers.{fetched_is_kept, job_there, number_is_kept}
use Rattle.run_core.proofs.events.Reflecting.{FliesThere, Laws, flies_there}

-- What is known

known_jobs : (o : Option Unfolding) (walks : Walker) (learned : List Resolved) → IsKnown walks learned o → known_in o ≡ (unfolded walks learned).jobs
known_jobs None walks learned known = absurd known
known_jobs (Some kept) walks learned known = known.jobs

known_fault : (o : Option Unfolding) (walks : Walker) (learned : List Resolved) → IsKnown walks learned o → (unfolded walks learned).fault ≡ None
known_fault None walks learned known = absurd known
known_fault (Some kept) walks learned known = known.fault

known_outputs : (o : Option Unfolding) (walks : Walker) (learned : List Resolved) (outputs : Fields) → IsKnown walks learned o → (unfolded walks learned).result ≡ Some outputs →
    outputs_in o ≡ outputs
known_outputs None walks learned outputs known is = absurd known
known_outputs (Some kept) walks learned outputs known is = ap (λ (o : Option Fields). unwrap_or o []) (known.result ∙ is)

-- Ends

pub record IsSettled (s : Scene) (es : List Event) (told : Result Outcome RunFault) : Type 0 where
  pub end : End
  pub is : settled s es ≡ Some end
  pub tells : outcome_of end ≡ told

pub settled_so : (s : Scene) (es : List Event) (o : Option End) (told : Result Outcome RunFault) → settled s es ≡ o → option_map outcome_of o ≡ Some told → IsSettled s es told
settled_so s es None told is tells = let never : None ≡ Some told = tells in absurd cc
settled_so s es (Some end) told is tells = record { end = end; is = is; tells = let same : outcome_of end ≡ told = cc in same }

pub record HasEnd (o : Option (Result Outcome RunFault)) : Type 0 where
  pub told : Result Outcome RunFault
  pub is : o ≡ Some told

pub end_there : (o : Option (Result Outcome RunFault)) → IsSome o → HasEnd o
end_there None some = let never : false ≡ true = some in absurd cc
end_there (Some told) some = record { told = told; is = refl }

-- Tickets

record HasTicket (tickets : List ℕ) : Type 0 where
  pub ticket : ℕ
  pub there : Contains tickets ticket

some_ticket : (tickets : List ℕ) → tickets ≢ [] → HasTicket tickets
some_ticket [] some = absurd (some refl)
some_ticket (n ∷ tickets) some = record { ticket = n; there = (0, omega arith, refl) }

module _ (s : Scene) (es : List Event) (course : Course) (at_work : Option ℕ) (r : Reflects s es course at_work) where
  -- unless the end is settled, all jobs of the rules are known
  pub all_known : course.end ≡ None → known_in course.known ≡ (unfolding_at s es).jobs
  all_known going =
      known_jobs course.known (s.walker (measures es)) (resolved es) (r.knows going)
      ∙ ap (λ (u : Unfolded). u.jobs) (sym (unfolding_when s es (r.measured going)))

  pub all_kept : course.end ≡ None → AreKept (unfolding_at s es).jobs (readings es) (course_of (past_of course) at_work r.keeps.gave_up)
  all_kept going = subst (λ (jobs : List Job). AreKept jobs (readings es) (course_of (past_of course) at_work r.keeps.gave_up)) (all_known going) r.keeps.books

  pub unsettled : course.end ≡ None → settled s es ≡ None
  unsettled going = none_settled (settled s es) course.end r.keeps.end going

  pub numbers_same : number_at es ≡ number_in (known_in course.known) course.jobs
  numbers_same = λ i place. number_is_kept (known_in course.known) (readings es) (past_of course) at_work r.keeps.gave_up r.keeps.books place i

  fetches_same : is_fetched es ≡ fetched_in (known_in course.known) course.jobs
  fetches_same = λ i place. fetched_is_kept (known_in course.known) (readings es) (past_of course) at_work r.keeps.gave_up r.keeps.books place i

  pub none_in_flight : course.tickets.items ≡ [] → in_flight es ≡ []
  none_in_flight none = none_flies (known_in course.known) (readings es) (course_of (past_of course) at_work r.keeps.gave_up) r.keeps.books none

some_there : (jobs : List Job) (number : ℕ) (job : Job) → IsJob jobs number job → slice_get jobs number ≡ Some job
some_there jobs number job it = slice_get-get_or jobs number job it.within ∙ ap Some it.is

module _ (s : Scene) (f : Progress) (course : Course) (at_work : Option ℕ) (r : Reflects s f.events course at_work) (idle : f.work ≡ nothing_due) (going : course.end ≡ None) where
  pub is_open : IsOpen s f
  is_open = record { idle = idle; collects = r.collects; unsettled = unsettled s f.events course at_work r going }

  -- the row of no known job is looked for any more
  pub looked_up : NoneToFind course → are_looked_up s f.events ≡ true
  looked_up none =
      subst (λ (jobs : List Job). list_all (has_no_find f.events) jobs ≡ true) (all_known s f.events course at_work r going)
      (all_looked_up (known_in course.known) f.events course.looked_up r.looks
      (λ n job it past. none n job (some_there (known_in course.known) n job it) past))

  pub is_free : NoneToFind course → IsFree s f
  is_free none = record {
    still = is_open;
    measured = r.measured going;
    looked_up = looked_up none;
  }

-- the files of a row are there, as far as is known

loads_as : (keep : Bool) (es : List Event) (lost : List (List ℕ)) → ((key : List ℕ) → is_lost es key ≡ is_lost_in lost key) → (o : Option Row) →
    is_archived keep es o ≡ (keep && archived_in lost o)
loads_as true es lost same None = refl
loads_as true es lost same (Some row) = ap (λ b. row.archived && not b) (same row.key)
loads_as false es lost same None = refl
loads_as false es lost same (Some row) = refl

pub nor_kept : (keep : Bool) → (keep && false) ≡ false
nor_kept true = refl
nor_kept false = refl

not_true : (b : Bool) → not b ≡ true → b ≡ false
not_true true is = absurd cc
not_true false is = refl

-- whether the job of a number can be loaded
module _ (s : Scene) where
  pub loads_at : (es : List Event) (course : Course) (at_work : Option ℕ) → Reflects s es course at_work → (n : ℕ) (job : Job) → IsJob (known_in course.known) n job →
      may_load s es job.place ≡ (s.options.keep && can_load course n)
  loads_at es course at_work r n job it =
      ap (λ (o : Option Row). is_archived s.options.keep es o) (r.rows.each n job it) ∙ loads_as s.options.keep es course.lost.items r.lost (row_in course.rows n)

-- what waits and is loaded can be
pub loads_can : (s : Scene) {t : List Pair} (f : Progress) (plans : PlansSoFar) → Goes s (InForce s) t f plans → (course : Course) (at_work : Option ℕ) (r : Reflects s f.events course at_work) →
    course.end ≡ None → IsFree s f → (m : ℕ) (job : Job) → IsJob (jobs_in s f) m job → waits_in course.jobs m ≡ true → mark plans.marks m ≡ Load → may_load s f.events job.place ≡ true
loads_can s f plans goes course at_work r going free m job it waits is =
    let k : AreKept (jobs_in s f) (readings f.events) (course_of (past_of course) at_work r.keeps.gave_up) = all_kept s f.events course at_work r going in
    let away : is_at_hand f.events job.place ≡ false =
    (or_parts (is_flying (in_flight f.events) job.place) (is_at_hand f.events job.place) (k.waiting m job it waits)).1 in
    let now : PlansAt s f plans = planned_there s m job goes free.still.idle free.still.collects free.still.unsettled free.looked_up it away in
    loaded_can s f.events plans.marks now.least.cheapest.valid m job it is (k.waiting m job it waits)

module _ (s : Scene) (given : Given) (same : given.options ≡ s.options) where
  -- files are copied from where the jobs that made them left them
  sources_same : (es : List Event) (course : Course) (at_work : Option ℕ) → Reflects s es course at_work → (values : Fields) →
      fields_moved (source_place (folder_at s es)) values ≡ sources_in given.options course values
  sources_same es course at_work r values =
      ap (λ (number : JobPlace → ℕ). fields_moved (source_place (λ place. left_folder s.options.work (is_fetched es place) (number place))) values) (numbers_same s es course at_work r)
      ∙ ap (λ (fetched : JobPlace → Bool). fields_moved (source_place (λ place. left_folder s.options.work (fetched place) (number_in (known_in course.known) course.jobs place))) values)
      (fetches_same s es course at_work r)
      ∙ ap (λ (o : Options). sources_in o course values) (sym same)

  plan_same : (es : List Event) (course : Course) (at_work : Option ℕ) → Reflects s es course at_work → (n : ℕ) {turn : Turn} (st : Stages given course n turn) →
      IsPlan false (in_folder s.options.work (course.folders + 1)) (fields_moved (source_place (folder_at s es)) st.job.inputs) st.plan
  plan_same es course at_work r n st =
      subst (λ (values : Fields). IsPlan false (in_folder s.options.work (course.folders + 1)) values st.plan) (sym (sources_same es course at_work r st.job.inputs))
      (subst (λ (o : Options). IsPlan false (in_folder o.work (course.folders + 1)) (sources_in given.options course st.job.inputs) st.plan) same st.is_plan)

  delivery_same : (es : List Event) (course : Course) (at_work : Option ℕ) → Reflects s es course at_work → (outputs : Fields) → outputs_in course.known ≡ outputs →
      sources (folder_at s es) outputs ≡ sources_in given.options course (last_by_name (outputs_in course.known))
  delivery_same es course at_work r outputs kept =
      sym (map_by_name (value_moved (source_place (folder_at s es))) outputs)
      ∙ sources_same es course at_work r (last_by_name outputs)
      ∙ ap (λ (values : Fields). sources_in given.options course (last_by_name values)) (sym kept)

  -- what is marked so is loaded
  loads : (m : Mark) → is_load m ≡ true → m ≡ Load
  loads Load is = refl
  loads Compute is = absurd cc
  loads Prune is = absurd cc

  module _ {t : List Pair} (f : Progress) (plans : PlansSoFar) (goes : Goes s (InForce s) t f plans) (idle : f.work ≡ nothing_due) where
    -- the lowest job that is ready is staged
    staged_next : (course : Course) (n : ℕ) (turn : Turn) → KeepsPlans plans (past_of course) → Reflects s f.events course None → course.end ≡ None → NoneToFind course →
        NoneMayFetch s f plans.marks → length course.tickets.items < s.options.slots → IsLowest (marks_in course.planned) (families_in course.known) course.jobs n →
        Stages given course n turn → IsAt s f plans.marks course turn
    staged_next course n turn planned r going looked unfetched slot by_course st =
        let it : IsJob (known_in course.known) n st.job = job_there (known_in course.known) n st.job st.known in
        let whole : known_in course.known ≡ jobs_in s f = all_known s f.events course None r going in
        let lowest : IsLowest plans.marks (families_in course.known) course.jobs n =
        subst (λ (marks : List Mark). IsLowest marks (families_in course.known) course.jobs n) (marks_kept plans (past_of course) planned) by_course in
        subst (IsAt s f plans.marks course) (sym st.is)
        (staging n st.job st.plan r (record {
          it = it;
          may = ready_may_stage s f plans.marks (course_of (past_of course) None r.keeps.gave_up) (all_kept s f.events course None r going)
              (is_free s f course None r idle going looked) n st.job st.plan (subst (λ (jobs : List Job). IsJob jobs n st.job) whole it)
              (ready_waits plans.marks (known_in course.known) course.jobs n st.job it lowest.ready)
              (ready_computes plans.marks (known_in course.known) course.jobs n st.job it lowest.ready)
              (subst (λ (jobs : List Job). AreParentsThere jobs (course_of (past_of course) None r.keeps.gave_up) n st.job) whole
              (ready_parents plans.marks (known_in course.known) course.jobs n st.job it lowest.ready)) slot
              (plan_same f.events course None r n st);
          no_fetch = unfetched;
          lowest = lowest;
          going = going;
        }))

    -- the files of the lowest job that waits and is loaded are fetched
    fetched_next : (course : Course) (n : ℕ) (turn : Turn) → KeepsPlans plans (past_of course) → Reflects s f.events course None → course.end ≡ None → NoneToFind course →
        IsNextToFetch given course n → Fetches course n turn → IsAt s f plans.marks course turn
    fetched_next course n turn planned r going looked next f_is =
        let it : IsJob (known_in course.known) n f_is.job = job_there (known_in course.known) n f_is.job f_is.known in
        let whole : known_in course.known ≡ jobs_in s f = all_known s f.events course None r going in
        let is_marked : marks_in course.planned ≡ plans.marks = marks_kept plans (past_of course) planned in
        let its : loads_in plans.marks course n ≡ true = ap (λ (marks : List Mark). loads_in marks course n) (sym is_marked) ∙ next.loads in
        let parts : (waits_in course.jobs n ≡ true) × ((is_load (mark plans.marks n) && can_load course n) ≡ true) =
        and_parts (waits_in course.jobs n) (is_load (mark plans.marks n) && can_load course n) its in
        let loaded : (is_load (mark plans.marks n) ≡ true) × (can_load course n ≡ true) = and_parts (is_load (mark plans.marks n)) (can_load course n) parts.1 in
        let keeps : s.options.keep ≡ true = ap (λ (o : Options). o.keep) (sym same) ∙ next.keeps in
        let archived : archived_in course.lost.items (Some f_is.row) ≡ true = ap (archived_in course.lost.items) (sym f_is.found) ∙ loaded.1 in
        let there : is_lost_in course.lost.items f_is.row.key ≡ false =
        not_true (is_lost_in course.lost.items f_is.row.key) (and_parts f_is.row.archived (not (is_lost_in course.lost.items f_is.row.key)) archived).1 in
        let away : is_there course.jobs n ≡ false =
        sym (r.keeps.books.hand n f_is.job it)
        ∙ (or_parts (is_flying (in_flight f.events) f_is.job.place) (is_at_hand f.events f_is.job.place) (r.keeps.books.waiting n f_is.job it parts.0)).1 in
        subst (IsAt s f plans.marks course) (sym f_is.is)
        (fetching n f_is.job f_is.row r (record {
          it = it;
          found = f_is.found;
          may = waiting_may_fetch s f plans.marks (course_of (past_of course) None r.keeps.gave_up) (all_kept s f.events course None r going)
              (is_free s f course None r idle going looked) n f_is.job f_is.row (subst (λ (jobs : List Job). IsJob jobs n f_is.job) whole it) parts.0
              (r.rows.each n f_is.job it ∙ f_is.found) (loads (mark plans.marks n) loaded.0);
          waits = parts.0;
          untried = untried (past_of course) n f_is.row f_is.found away there r.tried;
          lowest = subst (λ (marks : List Mark). NoneLoads marks course n) is_marked next.lowest;
          kept = keeps;
          going = going;
        }))

    -- the row of the first job that is left is looked for
    pub found_next : (course : Course) (n : ℕ) (turn : Turn) → Reflects s f.events course None → course.end ≡ None → IsNextToFind course n → Finds course n turn →
        IsAt s f plans.marks course turn
    found_next course n turn r going next f_is =
        let it : IsJob (known_in course.known) n f_is.job = job_there (known_in course.known) n f_is.job f_is.known in
        let whole : known_in course.known ≡ jobs_in s f = all_known s f.events course None r going in
        let same_job : Some next.job ≡ Some f_is.job = sym next.known ∙ f_is.known in
        let one : next.job ≡ f_is.job = cc in
        subst (IsAt s f plans.marks course) (sym f_is.is)
        (finding n f_is.job r (record {
          it = it;
          may = may_find s f plans.marks n f_is.job (is_open s f course None r idle going)
              (subst AreApart whole r.keeps.books.apart) (subst (λ (jobs : List Job). IsJob jobs n f_is.job) whole it)
              (subst (λ (j : Job). is_reusable j ≡ true) one next.reusable) (r.looks.unasked n f_is.job it next.left);
          left = next.left;
          first = λ other its there below within. next.first other its (some_there (known_in course.known) other its there) below within;
          going = going;
        }))

    module _ (course : Course) (planned : KeepsPlans plans (past_of course)) (r : Reflects s f.events course None) where
      -- after a failure the children in flight are waited for
      pub drained : IsSome course.end → course.tickets.items ≢ [] → IsAt s f plans.marks course collects
      drained over flying =
          let first : HasTicket course.tickets.items = some_ticket course.tickets.items flying in
          let flies : FliesThere s f.events course first.ticket = flies_there s f.events course None first.ticket first.there r in
          let end : HasEnd course.end = end_there course.end over in
          let so : IsSettled s f.events end.told = settled_so s f.events (settled s f.events) end.told refl (sym r.keeps.end ∙ end.is) in
          collecting r (may_collect_settled s f plans.marks (first.ticket, flies.job.place) so.end idle r.collects flies.there so.is)

      -- and then it ends
      pub ended_so : (told : Result Outcome RunFault) → course.end ≡ Some told → course.tickets.items ≡ [] → (new : Course) → (past_of new).notes ≡ (past_of course).notes →
          IsAt s f plans.marks new (ends told)
      ended_so told is none new same_notes =
          let so : IsSettled s f.events told = settled_so s f.events (settled s f.events) told refl (sym r.keeps.end ∙ is) in
          subst (λ (end : Result Outcome RunFault). IsAt s f plans.marks new (ends end)) so.tells
          (ended so.end (fails so.end idle r.collects (none_in_flight s f.events course None r none) so.is) (same_notes ∙ r.notes)
          (λ still. let never : None ≡ Some so.end = sym still.unsettled ∙ so.is in absurd cc))

      module _ (going : course.end ≡ None) (looked : NoneToFind course) where
        abbrev books : Books
        books = course_of (past_of course) None r.keeps.gave_up

        whole_known : known_in course.known ≡ jobs_in s f
        whole_known = all_known s f.events course None r going

        is_marked : marks_in course.planned ≡ plans.marks
        is_marked = marks_kept plans (past_of course) planned

        -- so none is loaded where none is to be fetched
        none_loaded : NoneToFetch given course → NoneIsLoaded (jobs_in s f) plans.marks books (length (jobs_in s f))
        none_loaded (none_kept kept) m job below it waits is =
            let its : IsJob (known_in course.known) m job = subst (λ (jobs : List Job). IsJob jobs m job) (sym whole_known) it in
            let cannot : may_load s f.events job.place ≡ false =
            loads_at s f.events course None r m job its ∙ ap (λ b. b && can_load course m) (ap (λ (o : Options). o.keep) (sym same) ∙ kept) in
            let never : true ≡ false = sym (loads_can s f plans goes course None r going (is_free s f course None r idle going looked) m job it waits is) ∙ cannot in cc
        none_loaded (none_loads none) m job below it waits is =
            let its : IsJob (known_in course.known) m job = subst (λ (jobs : List Job). IsJob jobs m job) (sym whole_known) it in
            let unloaded : can_load course m ≡ false =
            sym (ap (λ b. b && (is_load (mark plans.marks m) && can_load course m)) waits ∙ ap (λ (x : Mark). is_load x && can_load course m) is)
            ∙ ap (λ (marks : List Mark). loads_in marks course m) (sym is_marked) ∙ none m its.within in
            let cannot : may_load s f.events job.place ≡ false =
            loads_at s f.events course None r m job its ∙ ap (λ b. s.options.keep && b) unloaded ∙ nor_kept s.options.keep in
            let never : true ≡ false = sym (loads_can s f plans goes course None r going (is_free s f course None r idle going looked) m job it waits is) ∙ cannot in cc

        unfetched_if : NoneToFetch given course → NoneMayFetch s f plans.marks
        unfetched_if none =
            none_may_fetch s f plans.marks books (all_kept s f.events course None r going) (is_free s f course None r idle going looked) (ap is_some going) refl (none_loaded none)

        busy_if_full : NoneMayFetch s f plans.marks → s.options.slots ≤ length course.tickets.items → IsBusy s f plans.marks
        busy_if_full unfetched full =
            busy_when_taken s f plans.marks books (all_kept s f.events course None r going) (is_free s f course None r idle going looked) unfetched full

        -- where no job is ready, none may be staged
        none_is_ready : NoneReady (marks_in course.planned) (families_in course.known) course.jobs (length (families_in course.known)) →
            NoneIsReady (known_in course.known) plans.marks books (length (known_in course.known))
        none_is_ready none m job below it waits computed parents =
            let many : length (families_in course.known) ≡ length (known_in course.known) = as_many [] (known_in course.known) in
            let ready : is_ready plans.marks (families_in course.known) course.jobs m ≡ true = ready_if plans.marks (known_in course.known) course.jobs m job it waits computed parents in
            let not_ready : is_ready plans.marks (families_in course.known) course.jobs m ≡ false =
            ap (λ (marks : List Mark). is_ready marks (families_in course.known) course.jobs m) (sym is_marked) ∙ none m (omega (arith, below, many)) in
            let never : true ≡ false = sym ready ∙ not_ready in cc

        busy_if_none_is_ready : NoneMayFetch s f plans.marks → NoneIsReady (known_in course.known) plans.marks books (length (known_in course.known)) → IsBusy s f plans.marks
        busy_if_none_is_ready unfetched none =
            busy_when_none_ready s f plans.marks books (all_kept s f.events course None r going) (is_free s f course None r idle going looked)
            unfetched (ap is_some going) refl
            (subst (λ (jobs : List Job). NoneIsReady jobs plans.marks books (length jobs)) whole_known none)

        busy_if : NoneToFetch given course → NoneToStage given course → IsBusy s f plans.marks
        busy_if unfetched (slots_full full) = busy_if_full (unfetched_if unfetched) (subst (λ (o : Options). o.slots ≤ length course.tickets.items) same full)
        busy_if unfetched (none_ready none) = busy_if_none_is_ready (unfetched_if unfetched) (none_is_ready none)

        waited_for : course.tickets.items ≢ [] → NoneToFetch given course → NoneToStage given course → IsAt s f plans.marks course collects
        waited_for flying unfetched none =
            let first : HasTicket course.tickets.items = some_ticket course.tickets.items flying in
            let flies : FliesThere s f.events course first.ticket = flies_there s f.events course None first.ticket first.there r in
            collecting r (may_collect s f plans.marks (first.ticket, flies.job.place) idle r.collects flies.there (λ still. busy_if unfetched none))

        -- nothing more can be done, and no child is in flight: each known job is resolved
        module _ (laws : Laws s) (some : 1 ≤ s.options.slots) (none : course.tickets.items ≡ []) (busy : IsBusy s f plans.marks) where
          abbrev walks : Walker
          walks = s.walker (measures f.events)

          each_resolved : (job : Job) → Contains (unfolded walks (resolved f.events)).jobs job → is_some (outputs_at (resolved f.events) job.place) ≡ true
          each_resolved job there =
              all_resolved s goes some (subst AreApart whole_known r.keeps.books.apart) busy (none_in_flight s f.events course None r none) there.0 job
              (subst (λ (u : Unfolded). IsJob u.jobs there.0 job) (sym (unfolding_when s f.events (r.measured going))) (record { within = there.1; is = there.2 }))

          pub record HasResult : Type 0 where
            pub outputs : Fields
            pub result : (unfolding_at s f.events).result ≡ Some outputs
            pub kept : outputs_in course.known ≡ outputs

          result_by : (o : Option Fields) → (unfolded walks (resolved f.events)).result ≡ o → IsSome o → HasResult
          result_by None is some = let never : false ≡ true = some in absurd cc
          result_by (Some outputs) is some = record {
            outputs = outputs;
            result = ap (λ (u : Unfolded). u.result) (unfolding_when s f.events (r.measured going)) ∙ is;
            kept = known_outputs course.known walks (resolved f.events) outputs (r.knows going) is;
          }

          the_result : HasResult
          the_result =
              result_by (unfolded walks (resolved f.events)).result refl
              (laws.results (measures f.events) (resolved f.events) (known_fault course.known walks (resolved f.events) (r.knows going)) each_resolved)

          delivered_files : HasResult → any_file (outputs_in course.known) ≡ true → (turn : Turn) → DeliversFiles given course (last_by_name (outputs_in course.known)) turn →
              IsAt s f plans.marks course turn
          delivered_files result files turn d =
              subst (IsAt s f plans.marks course) (sym d.is)
              (delivering d.plan r
              (may_deliver s f plans.marks result.outputs d.plan busy (none_in_flight s f.events course None r none) result.result
              (ap any_file (sym result.kept) ∙ files) r.undelivered
              (subst (λ (values : Fields). IsPlan true s.options.outdir values d.plan) (sym (delivery_same f.events course None r result.outputs result.kept))
              (subst (λ (o : Options). IsPlan true o.outdir (sources_in given.options course (last_by_name (outputs_in course.known))) d.plan) same d.is_plan)))
              going)

          succeeded_at_once : HasResult → any_file (outputs_in course.known) ≡ false → IsAt s f plans.marks course (ends (Ok (Outcome.Success (located (last_by_name (outputs_in course.known))))))
          succeeded_at_once result no_files =
              subst (λ (outputs : Fields). IsAt s f plans.marks course (ends (Ok (Outcome.Success (located (last_by_name outputs)))))) (sym result.kept)
              (ended (succeeds_with result.outputs (last_by_name result.outputs))
              (succeeds result.outputs (last_by_name result.outputs) busy (none_in_flight s f.events course None r none) result.result
              (no_file (ap any_file (sym result.kept) ∙ no_files) r.undelivered)) r.notes (λ still. whole_known))

          delivered_by : {turn : Turn} → Delivers given course turn → IsAt s f plans.marks course turn
          delivered_by (delivers turn files d) = delivered_files the_result files turn d
          delivered_by (succeeds_at_once no_files) = succeeded_at_once the_result no_files

        result_there : Laws s → 1 ≤ s.options.slots → course.tickets.items ≡ [] → NoneToFetch given course → NoneToStage given course → {turn : Turn} → Delivers given course turn →
            IsAt s f plans.marks course turn
        result_there laws some none unfetched left d = delivered_by laws some none (busy_if unfetched left) d

        pub chosen : Laws s → 1 ≤ s.options.slots → {turn : Turn} → Chooses given course turn → IsAt s f plans.marks course turn
        chosen laws some (fetches number turn next f_is) = fetched_next course number turn planned r going looked next f_is
        chosen laws some (stages number turn unfetched may st) =
            staged_next course number turn planned r going looked (unfetched_if unfetched) (subst (λ (o : Options). length course.tickets.items < o.slots) same may.slot) may.lowest st
        chosen laws some (waits_for_one unfetched none flying) = waited_for flying unfetched none
        chosen laws some (has_result turn unfetched none nobody d) = result_there laws some nobody unfetched none d
