-- A run goes on with each answer to what is asked.
use Rattle.std.specs.Prelude.{◌≤◌}
use Rattle.std.proofs.Common.{◌≡◌, ◌+◌, ℕ, List, [], ◌∷◌, ◌++◌, ◌∙◌, Some, None, length, length-append, refl, sym, ap, subst}
use Rattle.proc_host.specs.Answers.{CanAnswer, is_measured, is_staged, is_started, has_ended, is_listed, is_read, is_delivered, is_discarded, has_failed, is_fetched, is_stored}
use Rattle.proc_host.specs.declared.call.HostAnswer.{HostAnswer}
use Rattle.proc_host.specs.declared.call.HostFault.{HostFault}
use Rattle.proc_host.specs.declared.call.HostRequest.{HostRequest}
use Rattle.staging.specs.declared.measure.Measure.{Measure}
use Rattle.staging.specs.declared.plan.StagePlan.{StagePlan}
use Rattle.job_graph.specs.Jobs.{Job}
use Rattle.job_graph.specs.Words.{JobPlace, Name}
use Rattle.run_rules.specs.declared.request.Answer.{Answer}
use Rattle.run_rules.specs.declared.request.Pair.{Pair}
use Rattle.run_rules.specs.declared.request.Request.{Request}
use Rattle.run_rules.specs.Allowed.{MayCollect, MayDeliver}
use Rattle.run_rules.specs.Answers.{MayAnswer, by_host, by_record}
use Rattle.run_rules.specs.Delivered.{located}
use Rattle.run_rules.specs.Events.{Progress}
use Rattle.run_rules.specs.Plans.{InForce, PlansSoFar}
use Rattle.run_rules.specs.Run.{Goes}
use Rattle.run_rules.specs.Scene.{Scene}
use Rattle.job_rows.specs.declared.row.Row.{Row}
use Rattle.run_core.proofs.job_steps.Discarded.{discard_goes_on, put_goes_on}
use Rattle.run_core.proofs.job_steps.Fetched.{drop_goes_on, fetch_goes_on, touch_goes_on}
use Rattle.run_core.proofs.job_steps.Found.{answer_goes_on}
use Rattle.run_core.specs.declared.state.Course.{Course}
use Rattle.run_core.specs.declared.state.Given.{Given}
use Rattle.run_core.specs.declared.state.JobPhase.{JobPhase}
use Rattle.run_core.specs.declared.state.Measuring.{Measuring}
use Rattle.run_core.specs.declared.state.Phase.{Phase}
use Rattle.run_core.specs.declared.state.Turn.{Turn}
use Rattle.run_core.specs.inner.Course.{Past, fault_after, nothing_past, past_of}
use Rattle.run_core.specs.inner.Follows.{FollowsFrom}
use Rattle.run_core.specs.inner.Keeps.{Reflects}
use Rattle.run_core.specs.inner.Measured.{IsMeasuring}
use Rattle.run_core.specs.inner.Measures.{Begins}
use Rattle.run_core.specs.inner.Standing.{IsAt, IsStaging, IsWorking, KeepsPlans, Runs, collecting, delivering, ended, measuring, staging, working, finding, putting, storing, FetchesNext, discarding, dropping, fetching, touching}
use Rattle.run_core.specs.inner.Turn.{collects, waits, works}
use Rattle.run_core.proofs.events.Reflecting.{Laws, staged_there}
use Rattle.run_core.proofs.going.Delivered.{delivery_goes_on}
use Rattle.run_core.proofs.going.Measured.{IsOf, begins_so, may_measure, measure_fault_reflects, measure_goes_on, when_measured}
use Rattle.run_core.proofs.going.Planning.{picked}
use Rattle.run_core.specs.inner.Inside.{rates_of}
use Rattle.run_core.proofs.job_steps.Calls.{for_job, for_job_apart, working_allowed}
use Rattle.run_core.proofs.job_steps.Ended.{child_goes_on}
use Rattle.run_core.proofs.job_steps.Failed.{collect_fails, fault_goes_by, fault_goes_on}
use Rattle.run_core.proofs.job_steps.Listed.{listing_goes_on}
use Rattle.run_core.proofs.job_steps.Read.{bytes_go_on}
use Rattle.run_core.proofs.job_steps.Staged.{staging_goes_on}
use Rattle.run_core.proofs.job_steps.Stored.{store_goes_on}
use Rattle.run_core.proofs.job_steps.Started.{start_goes_on}
use Rattle.run_core.proofs.job_steps.Turns.{PicksAt, PicksNext}
use Rattle.run_core.specs.inner.JobStates.{state_at}

module _ (s : Scene) (given : Given) (same : given.options ≡ s.options) (rated : given.rates ≡ rates_of given.options) (its : IsOf s given) (laws : Laws s) (some : 1 ≤ s.options.slots) where
  picks : (t : List Pair) → given.answers ≡ length t → PicksAt s given t
  picks t counted f plans comes idle old turn new planned r p = picked s given same rated {t = t} f plans comes counted idle old planned r laws some p

  module _ (t : List Pair) (counted : given.answers ≡ length t + 1) (f : Progress) (plans : PlansSoFar) (goes : Goes s (InForce s) t f plans) (old : Course)
      (planned : KeepsPlans plans (past_of old)) (turn : Turn) (new : Course) where
    next_picks : PicksNext s given t
    next_picks p = picks (t ++ p ∷ []) (counted ∙ sym (length-append t (p ∷ [])))

    -- the run with the answer to this call
    abbrev GoesOnWith : JobPlace → HostRequest → HostAnswer → Type 0
    GoesOnWith place call answer = Runs s (t ++ record { request = Request.Host place call; answer = Answer.Host answer } ∷ []) new turn

    measure_by : (found : List (Name × Measure)) (m : Measuring) (rest : List Name) (path : Name) → IsMeasuring s found m → m.left ≡ rest ++ path ∷ [] → f ≡ when_measured found →
        old.known ≡ None → past_of old ≡ nothing_past → {answer : HostAnswer} → CanAnswer old.tickets.items (HostRequest.Measure path) answer →
        FollowsFrom given old (waits (HostRequest.Measure path) (Phase.Measuring m)) (Answer.Host answer) turn new → GoesOnWith [] (HostRequest.Measure path) answer
    measure_by found m rest path is left happened none nothing (is_measured p measure) follows =
        measure_goes_on s given its laws t found plans m rest path is left next_picks (subst (λ (g : Progress). Goes s (InForce s) t g plans) happened goes) old planned nothing none measure turn new follows
    measure_by found m rest path is left happened none nothing (has_failed request) follows =
        fault_goes_by s given t next_picks (when_measured found) plans (subst (λ (g : Progress). Goes s (InForce s) t g plans) happened goes) old [] (HostRequest.Measure path)
        (may_measure s given its laws t found plans m rest path is left) refl turn new follows
        (may_measure s given its laws t found plans m rest path is left).still.unsettled planned
        (measure_fault_reflects s given its laws t found plans m rest path is left old follows.settled nothing none
        (follows.past ∙ ap (λ (p : Past). fault_after p.end [] HostFault.Measure (past_of old)) nothing) follows.known)

    stage_by : (n : ℕ) (job : Job) (plan : StagePlan) → Reflects s f.events old None → IsStaging s f plans.marks old n job plan →
        {answer : HostAnswer} → CanAnswer old.tickets.items (HostRequest.Stage plan (old.folders + 1)) answer →
        FollowsFrom given old (record { asks = Request.Host job.place (HostRequest.Stage plan (old.folders + 1)); phase = Phase.Staging n }) (Answer.Host answer) turn new →
        GoesOnWith job.place (HostRequest.Stage plan (old.folders + 1)) answer
    stage_by n job plan r st (is_staged p number) follows =
        staging_goes_on s given same laws t next_picks f plans goes old n job plan planned r st turn new follows
    stage_by n job plan r st (has_failed request) follows =
        fault_goes_on s given t next_picks f plans goes old job.place (HostRequest.Stage plan (old.folders + 1)) st.may refl turn new follows planned None r

    fetch_by : (n : ℕ) (job : Job) (row : Row) → Reflects s f.events old None → FetchesNext s f plans.marks old n job row →
        {answer : HostAnswer} → CanAnswer old.tickets.items (HostRequest.Fetch row.key (old.folders + 1) row.files) answer →
        FollowsFrom given old (record { asks = Request.Host job.place (HostRequest.Fetch row.key (old.folders + 1) row.files); phase = Phase.Fetching n }) (Answer.Host answer) turn new →
        GoesOnWith job.place (HostRequest.Fetch row.key (old.folders + 1) row.files) answer
    fetch_by n job row r next (is_fetched its_key number files found among) follows = fetch_goes_on s t f plans goes old n job row planned r next found turn new follows
    fetch_by n job row r next (has_failed request) follows =
        fault_goes_on s given t next_picks f plans goes old job.place (HostRequest.Fetch row.key (old.folders + 1) row.files) next.may refl turn new follows planned None r

    work_by : (n : ℕ) (job : Job) (phase : JobPhase) {call : HostRequest} {answer : HostAnswer} → CanAnswer old.tickets.items call answer → Reflects s f.events old (Some n) →
        IsWorking s f old n job call phase → FollowsFrom given old (works job.place n call phase) (Answer.Host answer) turn new → GoesOnWith job.place call answer
    work_by n job phase (is_measured path measure) r w follows =
        absurd (for_job s.options (state_at old.jobs n).folder [] (HostRequest.Measure path) phase w.calls.due)
    work_by n job phase (is_staged plan number) r w follows =
        absurd (for_job s.options (state_at old.jobs n).folder [] (HostRequest.Stage plan number) phase w.calls.due)
    work_by n job phase (is_started launch ticket fresh) r w follows =
        start_goes_on s given t next_picks f plans goes old n job launch ticket planned r fresh turn new phase w follows
    work_by n job phase (has_ended ending there) r w follows =
        absurd (for_job s.options (state_at old.jobs n).folder [] HostRequest.Collect phase w.calls.due)
    work_by n job phase (is_listed folder found below) r w follows =
        listing_goes_on s given same laws t next_picks f plans goes old n job folder found planned r turn new phase w follows
    work_by n job phase (is_read path limit bytes few) r w follows =
        bytes_go_on s given same laws t next_picks f plans goes old n job path limit bytes planned r turn new phase w follows
    work_by n job phase (is_fetched key number files found among) r w follows =
        absurd (for_job s.options (state_at old.jobs n).folder [] (HostRequest.Fetch key number files) phase w.calls.due)
    work_by n job phase (is_stored key folder files) r w follows =
        absurd (for_job s.options (state_at old.jobs n).folder [] (HostRequest.Store key folder files) phase w.calls.due)
    work_by n job phase (is_delivered plan) r w follows =
        absurd (for_job s.options (state_at old.jobs n).folder [] (HostRequest.Deliver plan) phase w.calls.due)
    work_by n job phase (is_discarded key) r w follows =
        absurd (for_job s.options (state_at old.jobs n).folder [] (HostRequest.Discard key) phase w.calls.due)
    work_by n job phase (has_failed request) r w follows =
        fault_goes_on s given t next_picks f plans goes old job.place request
        (working_allowed s f plans.marks old n job request phase (staged_there s f.events old n job w.it r) w)
        (for_job_apart request (for_job s.options (state_at old.jobs n).folder [] request phase w.calls.due)) turn new follows planned (Some n) r

    collect_by : Reflects s f.events old None → MayCollect s f plans.marks [] → {answer : HostAnswer} → CanAnswer old.tickets.items HostRequest.Collect answer →
        FollowsFrom given old collects (Answer.Host answer) turn new → GoesOnWith [] HostRequest.Collect answer
    collect_by r may (has_ended ending there) follows = child_goes_on s given same laws t next_picks f plans goes old planned r may ending turn new follows
    collect_by r may (has_failed request) follows = collect_fails s given t next_picks f plans goes old r may new follows.3 planned turn follows.0

    deliver_by : (plan : StagePlan) → Reflects s f.events old None → MayDeliver s f plans.marks [] plan → old.end ≡ None →
        {answer : HostAnswer} → CanAnswer old.tickets.items (HostRequest.Deliver plan) answer →
        FollowsFrom given old (waits (HostRequest.Deliver plan) (Phase.Delivering (located plan.value))) (Answer.Host answer) turn new → GoesOnWith [] (HostRequest.Deliver plan) answer
    deliver_by plan r may going (is_delivered p) follows = delivery_goes_on s given same rated laws some t counted f plans goes old planned plan r may going turn new follows
    deliver_by plan r may going (has_failed request) follows =
        fault_goes_on s given t next_picks f plans goes old [] (HostRequest.Deliver plan) may refl turn new follows planned None r

    -- each answer that may come
    answered : {before : Turn} {answer : Answer} → IsAt s f plans.marks old before → MayAnswer old.tickets.items before.asks answer → FollowsFrom given old before answer turn new →
        Runs s (t ++ record { request = before.asks; answer = answer } ∷ []) new turn
    answered (measuring found m rest path is left happened none nothing) (by_host place request answer can) follows =
        measure_by found m rest path is left happened none nothing can follows
    answered (finding n job r next) (by_record place request answer can) follows = answer_goes_on s given laws t next_picks f plans goes old n job planned r next answer turn new follows
    answered (putting n job row r it due) (by_record place request answer can) follows = put_goes_on s given t next_picks f plans goes old n job row planned r it due answer can turn new follows
    answered (fetching n job row r next) (by_host place request answer can) follows = fetch_by n job row r next can follows
    answered (touching n job its_key r it due) (by_record place request answer can) follows =
        touch_goes_on s given t next_picks f plans goes old n job its_key planned r it due answer can turn new follows
    answered (dropping n job its_key r it due own) (by_record place request answer can) follows =
        drop_goes_on s t f plans goes old n job its_key planned r it due own answer can turn new follows
    answered (discarding n job its_key left r it due) (by_host place request answer can) follows =
        discard_goes_on s given t next_picks f plans goes old n job its_key left planned r it due can turn new follows
    answered (staging n job plan r st) (by_host place request answer can) follows = stage_by n job plan r st can follows
    answered (storing n job row r it due) (by_host place request answer can) follows = store_goes_on s given t f plans goes old n job row planned r it due can turn new follows
    answered (working n job call phase r w) (by_host place request answer can) follows = work_by n job phase can r w follows
    answered (collecting r may) (by_host place request answer can) follows = collect_by r may can follows
    answered (delivering plan r may going) (by_host place request answer can) follows = deliver_by plan r may going can follows
    answered (ended end so noted knows) may follows = elim may [ ]

  pub goes_on_with : (t : List Pair) → given.answers ≡ length t + 1 → (old : Course) (before : Turn) (answer : Answer) (turn : Turn) (new : Course) → Runs s t old before → MayAnswer old.tickets.items before.asks answer →
      FollowsFrom given old before answer turn new → Runs s (t ++ record { request = before.asks; answer = answer } ∷ []) new turn
  goes_on_with t counted old before answer turn new runs may follows = answered t counted runs.happened runs.plans runs.goes old runs.planned turn new runs.at may follows

  pub begins_with : given.answers ≡ 0 → (old : Course) → past_of old ≡ nothing_past → old.known ≡ None → (turn : Turn) (new : Course) → Begins given old turn new → Runs s [] new turn
  begins_with counted = begins_so s given its laws (picks [] counted)
