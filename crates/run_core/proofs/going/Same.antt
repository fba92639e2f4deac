-- Where the machine is depends on what its course has come to, and not on the room that its lists have.
use Rattle.std.specs.Prelude.{◌&&◌}
use Rattle.std.proofs.Common.{◌≡◌, ◌∙◌, ◌+◌, ℕ, List, Some, None, sym, ap, subst, ◌≤◌}
use Rattle.plan_checker.specs.Plan.{mark}
use Rattle.plan_checker.specs.declared.plan.Mark.{Mark}
use Rattle.proc_host.specs.declared.call.HostRequest.{HostRequest}
use Rattle.staging.specs.declared.plan.StagePlan.{StagePlan}
use Rattle.job_graph.specs.Jobs.{Job}
use Rattle.run_rules.specs.declared.request.Pair.{Pair}
use Rattle.run_rules.specs.declared.request.Request.{Request}
use Rattle.job_rows.specs.declared.row.Row.{Row}
use Rattle.run_rules.specs.Allowed.{MayFetch, MayStage}
use Rattle.run_rules.specs.Events.{Progress}
use Rattle.run_rules.specs.Scene.{Scene}
use Rattle.run_rules.proofs.events.Places.{IsJob}
use Rattle.run_core.specs.declared.state.Course.{Course}
use Rattle.run_core.specs.declared.state.JobPhase.{JobPhase}
use Rattle.run_core.specs.declared.job_states.JobState.{JobState}
use Rattle.run_core.specs.declared.state.Phase.{Phase}
use Rattle.run_core.specs.declared.state.Turn.{Turn}
use Rattle.job_graph.specs.Unfold.{Known}
use Rattle.run_core.specs.inner.Course.{Past, families_in, key_in, known_in, past_of}
use Rattle.run_core.specs.inner.Due.{Calls}
use Rattle.run_core.specs.inner.Standing.{IsAt, IsStaging, IsWorking, Runs, collecting, delivering, ended, measuring, staging, working, FindsNext, finding, putting, storing, FetchesNext, discarding, dropping, fetching, touching}
use Rattle.run_core.proofs.events.Reflecting.{reflects_same}
use Rattle.run_core.specs.inner.Fetches.{archived_in}
use Rattle.run_core.specs.inner.FoundRows.{row_in}
use Rattle.run_core.specs.inner.JobStates.{IsLowest, state_at, waits_in}
use Rattle.run_core.specs.inner.Marks.{is_load}
use Rattle.run_core.proofs.PlansKept.{planned_same}

module _ (s : Scene) (f : Progress) (marks : List Mark) (old new : Course) (past : past_of new ≡ past_of old) (known : new.known ≡ old.known) where
  same_jobs : known_in old.known ≡ known_in new.known
  same_jobs = ap known_in (sym known)

  same_states : old.jobs ≡ new.jobs
  same_states = ap (λ (p : Past). p.jobs) (sym past)

  same_end : new.end ≡ old.end
  same_end = ap (λ (p : Past). p.end) past

  same_folders : old.folders ≡ new.folders
  same_folders = ap (λ (p : Past). p.folders) (sym past)

  lowest_same : (n : ℕ) → IsLowest marks (families_in old.known) old.jobs n → IsLowest marks (families_in new.known) new.jobs n
  lowest_same n lowest =
      subst (λ (states : List JobState). IsLowest marks (families_in new.known) states n) same_states
      (subst (λ (families : List Known). IsLowest marks families old.jobs n) (ap families_in (sym known)) lowest)

  staging_same : (n : ℕ) (job : Job) (plan : StagePlan) → IsStaging s f marks old n job plan → IsStaging s f marks new n job plan
  staging_same n job plan st = record {
    it = subst (λ (jobs : List Job). IsJob jobs n job) same_jobs st.it;
    may = subst (λ folders. MayStage s f marks job.place plan (folders + 1)) same_folders st.may;
    no_fetch = st.no_fetch;
    lowest = lowest_same n st.lowest;
    going = same_end ∙ st.going;
  }

  fetches_same : (n : ℕ) (job : Job) (row : Row) → FetchesNext s f marks old n job row → FetchesNext s f marks new n job row
  fetches_same n job row next = record {
    it = subst (λ (jobs : List Job). IsJob jobs n job) same_jobs next.it;
    found = ap (λ (p : Past). row_in p.rows n) past ∙ next.found;
    may = subst (λ folders. MayFetch s f marks job.place row.key (folders + 1) row.files) same_folders next.may;
    waits = ap (λ (p : Past). waits_in p.jobs n) past ∙ next.waits;
    untried = ap (λ (p : Past). (state_at p.jobs n).tried) past ∙ next.untried;
    lowest = λ m below. ap (λ (p : Past). waits_in p.jobs m && (is_load (mark marks m) && archived_in p.lost (row_in p.rows m))) past ∙ next.lowest m below;
    kept = next.kept;
    going = same_end ∙ next.going;
  }

  same_looks : old.looked_up ≡ new.looked_up
  same_looks = ap (λ (p : Past). p.looked_up) (sym past)

  finds_same : (n : ℕ) (job : Job) → FindsNext s f old n job → FindsNext s f new n job
  finds_same n job next = record {
    it = subst (λ (jobs : List Job). IsJob jobs n job) same_jobs next.it;
    may = next.may;
    left = subst (λ count. count ≤ n) same_looks next.left;
    first = λ other its there below within.
        next.first other its (subst (λ (jobs : List Job). IsJob jobs other its) (sym same_jobs) there) (subst (λ count. count ≤ other) (sym same_looks) below) within;
    going = same_end ∙ next.going;
  }

  pub working_same : (n : ℕ) (job : Job) (call : HostRequest) (phase : JobPhase) → IsWorking s f old n job call phase → IsWorking s f new n job call phase
  working_same n job call phase w = record {
    it = subst (λ (jobs : List Job). IsJob jobs n job) same_jobs w.it;
    due = w.due;
    calls = subst (λ (states : List JobState). Calls s.options (state_at states n).folder call phase) same_states w.calls;
    on = w.on;
  }

  pub at_same : {turn : Turn} → IsAt s f marks old turn → IsAt s f marks new turn
  at_same (measuring found m rest path is left happened none nothing) = measuring found m rest path is left happened (known ∙ none) (past ∙ nothing)
  at_same (finding n job r next) = finding n job (reflects_same s f.events old new None past known r) (finds_same n job next)
  at_same (fetching n job row r next) =
      subst (λ folders. IsAt s f marks new (record { asks = Request.Host job.place (HostRequest.Fetch row.key (folders + 1) row.files); phase = Phase.Fetching n })) (sym same_folders)
      (fetching n job row (reflects_same s f.events old new None past known r) (fetches_same n job row next))
  at_same (touching n job its_key r it due) =
      touching n job its_key (reflects_same s f.events old new None past known r) (subst (λ (jobs : List Job). IsJob jobs n job) same_jobs it) due
  at_same (dropping n job its_key r it due own) =
      dropping n job its_key (reflects_same s f.events old new None past known r) (subst (λ (jobs : List Job). IsJob jobs n job) same_jobs it) due
      (own ∙ ap (λ (p : Past). key_in p.rows n) (sym past))
  at_same (discarding n job its_key left r it due) =
      discarding n job its_key left (reflects_same s f.events old new None past known r) (subst (λ (jobs : List Job). IsJob jobs n job) same_jobs it) due
  at_same (staging n job plan r st) =
      subst (λ folders. IsAt s f marks new (record { asks = Request.Host job.place (HostRequest.Stage plan (folders + 1)); phase = Phase.Staging n })) (sym same_folders)
      (staging n job plan (reflects_same s f.events old new None past known r) (staging_same n job plan st))
  at_same (working n job call phase r w) = working n job call phase (reflects_same s f.events old new (Some n) past known r) (working_same n job call phase w)
  at_same (collecting r may) = collecting (reflects_same s f.events old new None past known r) may
  at_same (delivering plan r may going) = delivering plan (reflects_same s f.events old new None past known r) may (same_end ∙ going)
  at_same (putting n job row r it due) =
      putting n job row (reflects_same s f.events old new None past known r) (subst (λ (jobs : List Job). IsJob jobs n job) same_jobs it) due
  at_same (storing n job row r it due) =
      storing n job row (reflects_same s f.events old new None past known r) (subst (λ (jobs : List Job). IsJob jobs n job) same_jobs it) due
  at_same (ended end so noted knows) = ended end so (ap (λ (p : Past). p.notes) past ∙ noted) (λ still. ap known_in known ∙ knows still)

-- so with its run
pub runs_same : (s : Scene) (t : List Pair) (old new : Course) (turn : Turn) → past_of new ≡ past_of old → new.known ≡ old.known → Runs s t old turn → Runs s t new turn
runs_same s t old new turn past known runs = record {
  happened = runs.happened;
  plans = runs.plans;
  goes = runs.goes;
  planned = planned_same runs.plans (past_of old) (past_of new) past runs.planned;
  at = at_same s runs.happened runs.plans.marks old new past known runs.at;
}
