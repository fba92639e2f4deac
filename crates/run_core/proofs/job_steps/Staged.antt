-- A job is staged: its input files are read, or it is started, or it fails.
use Rattle.std.proofs.Common.{◌≡◌, ◌∙◌, ◌+◌, ◌==◌, ℕ, cond, List, [], ◌∷◌, ◌++◌, Option, Some, None, refl, sym, ap, subst, append_assoc, eq-eqb}
use Rattle.input_files.specs.Contents.{heads_wanted}
use Rattle.proc_host.specs.declared.call.HostAnswer.{HostAnswer}
use Rattle.proc_host.specs.declared.call.HostRequest.{HostRequest}
use Rattle.staging.specs.declared.plan.StagePlan.{StagePlan}
use Rattle.cwl_process.specs.declared.tool.Tool.{Tool}
use Rattle.job_graph.specs.declared.unfolding.Unfolding.{Unfolding}
use Rattle.job_graph.specs.Jobs.{Job}
use Rattle.run_rules.specs.declared.request.Pair.{Pair}
use Rattle.run_rules.specs.Events.{Event, Progress, job_staged}
use Rattle.run_rules.specs.Plans.{InForce, PlansSoFar}
use Rattle.run_rules.specs.Run.{Goes}
use Rattle.run_rules.specs.Scene.{Scene}
use Rattle.run_rules.specs.StartsOn.{StartsOn}
use Rattle.run_rules.specs.Steps.{Steps, call, progress_with, stages}
use Rattle.run_rules.proofs.events.Grows.{Comes, comes_on}
use Rattle.run_rules.proofs.events.Places.{IsJob}
use Rattle.run_core.specs.declared.state.Course.{Course}
use Rattle.run_core.specs.declared.state.Given.{Given}
use Rattle.run_core.specs.declared.state.Turn.{Turn}
use Rattle.run_core.specs.inner.Course.{Past, known_in, past_of}
use Rattle.run_core.specs.inner.Due.{CallsNext, Starts, events_next, work_next}
use Rattle.run_core.specs.inner.Keeps.{Reflects}
use Rattle.run_core.specs.inner.Picks.{AfterStaging}
use Rattle.run_core.specs.inner.Standing.{IsStaging, Runs, KeepsPlans}
use Rattle.run_core.proofs.events.Kept.{folder_staged}
use Rattle.run_core.proofs.events.Families.{ready_waits}
use Rattle.run_core.proofs.events.Reflecting.{Laws, known_there, staged_reflects}
use Rattle.run_core.proofs.job_steps.Sites.{Fits, site_fits, starts_at, starts_call, works_unstarted}
use Rattle.run_core.proofs.job_steps.Turns.{PicksNext, turns_at}
use Rattle.run_core.specs.inner.JobStates.{state_at}

-- a number is the same as itself
its_own : (n one other : ℕ) → cond (n == n) one other ≡ one
its_own n one other = ap (λ b. cond b one other) (eq-eqb n n refl)

module _ (s : Scene) (given : Given) (same : given.options ≡ s.options) (laws : Laws s) (t : List Pair) (picks : PicksNext s given t) (f : Progress) (plans : PlansSoFar)
    (goes : Goes s (InForce s) t f plans) where
  module _ (old : Course) (n : ℕ) (job : Job) (plan : StagePlan) (planned : KeepsPlans plans (past_of old)) (r : Reflects s f.events old None)
      (is : IsStaging s f plans.marks old n job plan) (turn : Turn) (new : Course) (after : AfterStaging given old n plan.value turn new) where
    abbrev folder : ℕ
    folder = old.folders + 1

    it_still : IsJob (known_in after.staged.known) n job
    it_still = subst (λ (k : Option Unfolding). IsJob (known_in k) n job) (sym after.known) is.it

    folder_now : (state_at after.staged.jobs n).folder ≡ folder
    folder_now =
        ap (λ (p : Past). (state_at p.jobs n).folder) after.past
        ∙ folder_staged (past_of old) n n
        ∙ its_own n folder (state_at old.jobs n).folder

    fits : Fits s.options folder job after.site
    fits =
        subst (λ (k : ℕ). Fits s.options k job after.site) folder_now (site_fits s.options given same after.staged n job after.site it_still after.is_site)

    staged_is : Reflects s (f.events ++ job_staged job.place folder ∷ []) after.staged (Some n)
    staged_is = staged_reflects s f.events old after.staged n job is.it (ready_waits plans.marks (known_in old.known) old.jobs n job is.it is.lowest.ready) is.may.slot after.past after.known r

    its_starts : Starts after.site plan.value [] (heads_wanted job.tool.inputs plan.value) after.next
    its_starts = subst (λ (tool : Tool). Starts after.site plan.value [] (heads_wanted tool.inputs plan.value) after.next) fits.tool after.starts

    on : StartsOn s.options job.place job folder plan.value [] (heads_wanted job.tool.inputs plan.value) (work_next s.options.keep job.place after.next) (events_next job.place after.next)
    on = starts_at s.options folder job after.site fits plan.value [] (heads_wanted job.tool.inputs plan.value) after.next its_starts

    abbrev more : List Event
    more = job_staged job.place folder ∷ events_next job.place after.next

    step : Steps s f (call job.place (HostRequest.Stage plan folder) HostAnswer.Done) (work_next s.options.keep job.place after.next) more
    step =
        stages job.place plan folder job (work_next s.options.keep job.place after.next) (events_next job.place after.next) (known_there s f.events old None n job is.it r) on

    its_comes : Comes s (t ++ call job.place (HostRequest.Stage plan folder) HostAnswer.Done ∷ []) (progress_with f (work_next s.options.keep job.place after.next) more) plans
    its_comes = comes_on s (call job.place (HostRequest.Stage plan folder) HostAnswer.Done) (work_next s.options.keep job.place after.next) more goes is.may step

    pub staging_goes_on : Runs s (t ++ call job.place (HostRequest.Stage plan (old.folders + 1)) HostAnswer.Done ∷ []) new turn
    staging_goes_on =
        turns_at s given same laws (t ++ call job.place (HostRequest.Stage plan folder) HostAnswer.Done ∷ []) (picks (call job.place (HostRequest.Stage plan folder) HostAnswer.Done))
        (progress_with f (work_next s.options.keep job.place after.next) more) plans its_comes
        (f.events ++ job_staged job.place folder ∷ []) after.staged n job (subst (λ (p : Past). KeepsPlans plans p) (sym after.past) planned) staged_is it_still after.next turn new refl
        (sym (append_assoc f.events (job_staged job.place folder ∷ []) (events_next job.place after.next)))
        (subst (λ (k : ℕ). CallsNext s.options k after.next) (sym folder_now)
        (starts_call s.options folder job after.site fits plan.value [] (heads_wanted job.tool.inputs plan.value) after.next its_starts))
        (works_unstarted (f.events ++ job_staged job.place folder ∷ []) s.options job folder plan.value [] (heads_wanted job.tool.inputs plan.value) after.next on)
        after.turns
