-- A child has ended: well, so that its output folder is listed, or permanently, or temporarily, so that its job may be started again.
use Rattle.std.proofs.Common.{◌≡◌, ◌∙◌, ℕ, List, [], ◌∷◌, ◌++◌, Option, Some, None, refl, sym, ap, subst, append_assoc, append-nil}
use Rattle.proc_host.specs.declared.call.HostAnswer.{HostAnswer}
use Rattle.proc_host.specs.declared.call.HostRequest.{HostRequest}
use Rattle.proc_host.specs.declared.child.ChildEnd.{ChildEnd}
use Rattle.proc_host.specs.declared.child.ExitClass.{ExitClass}
use Rattle.proc_host.specs.ExitClass.{class_of}
use Rattle.job_graph.specs.declared.unfolding.Unfolding.{Unfolding}
use Rattle.job_graph.specs.Jobs.{Job}
use Rattle.run_rules.specs.declared.outcome.Cause.{Cause}
use Rattle.run_rules.specs.declared.request.Pair.{Pair}
use Rattle.run_rules.specs.declared.setting.Options.{Options}
use Rattle.run_rules.specs.Allowed.{MayCollect}
use Rattle.run_rules.specs.Events.{Event, Progress, Work, child_exited, job_at, job_failed, job_failed_for_now, nothing_due, scan_due}
use Rattle.run_rules.specs.Folders.{out_folder}
use Rattle.run_rules.specs.Plans.{InForce, PlansSoFar}
use Rattle.run_rules.specs.Run.{Goes}
use Rattle.run_rules.specs.Scene.{Scene}
use Rattle.run_rules.specs.Steps.{Steps, call, exits_badly, exits_for_now, exits_well, progress_with}
use Rattle.run_rules.proofs.events.Grows.{Comes, comes_on}
use Rattle.run_rules.proofs.events.Places.{IsJob, one_job}
use Rattle.run_core.specs.declared.site.Site.{Site}
use Rattle.run_core.specs.declared.state.Course.{Course}
use Rattle.run_core.specs.declared.state.Given.{Given}
use Rattle.run_core.specs.declared.state.JobNext.{JobNext}
use Rattle.run_core.specs.declared.state.JobPhase.{JobPhase}
use Rattle.run_core.specs.declared.state.Kept.{Kept}
use Rattle.run_core.specs.declared.state.Turn.{Turn}
use Rattle.run_core.specs.inner.Course.{GivesUp, Past, known_in, past_of}
use Rattle.run_core.specs.inner.Due.{CallsNext, Scans}
use Rattle.run_core.specs.inner.Keeps.{Reflects}
use Rattle.run_core.specs.inner.Picks.{AfterChild, AfterEnd, AfterTemporary, IsSite, Turns, badly, for_now, well}
use Rattle.run_core.specs.inner.Standing.{Runs, KeepsPlans}
use Rattle.run_core.proofs.PlansKept.{given_up_planned}
use Rattle.run_core.proofs.events.Numbers.{job_there}
use Rattle.run_core.proofs.events.Reflecting.{Landed, Laws, gave_up_reflects, known_there, landed_reflects}
use Rattle.run_core.proofs.job_steps.Sites.{Fits, site_fits}
use Rattle.run_core.proofs.job_steps.Turns.{PicksNext, turns_at}
use Rattle.run_core.specs.inner.JobStates.{state_at}

-- the call that lists the output folder is the one for the job's folders
scan_calls : (options : Options) (folder : ℕ) (job : Job) (site : Site) (kept : Kept) (millis : ℕ) → Fits options folder job site →
    CallsNext options folder (JobNext.Asks (HostRequest.Scan (out_folder site.options.now.work site.folder)) (JobPhase.Scanning kept millis))
scan_calls options folder job site kept millis fits = record {
  due = sym (ap (λ (o : Options). Some (HostRequest.Scan (out_folder o.work site.folder))) fits.options_are
      ∙ ap (λ (k : ℕ). Some (HostRequest.Scan (out_folder options.work k))) fits.folder_is);
  fits = tt;
}

module _ (s : Scene) (given : Given) (same : given.options ≡ s.options) (laws : Laws s) (t : List Pair) (picks : PicksNext s given t) (f : Progress) (plans : PlansSoFar)
    (goes : Goes s (InForce s) t f plans) where
  module _ (old : Course) (planned : KeepsPlans plans (past_of old)) (r : Reflects s f.events old None) (may : MayCollect s f plans.marks []) (ending : ChildEnd) (turn : Turn) (new : Course)
      (after : AfterChild given old ending turn new) where
    abbrev pair : Pair
    pair = call [] HostRequest.Collect (HostAnswer.Ended ending)

    abbrev es : List Event
    es = f.events ++ child_exited ending.ticket ∷ []

    abbrev n : ℕ
    n = after.flight.job

    lands : Landed s f.events old after.landed ending.ticket after.flight
    lands = landed_reflects s f.events old after.landed ending.ticket after.flight after.taken after.known r

    it : IsJob (known_in after.landed.known) n lands.job
    it = subst (λ (k : Option Unfolding). IsJob (known_in k) n lands.job) (sym after.known) lands.it

    one : after.job ≡ lands.job
    one = one_job (known_in after.landed.known) n n after.job lands.job refl (job_there (known_in after.landed.known) n after.job after.is_job) it

    known : job_at s f.events lands.job.place ≡ Some lands.job
    known = known_there s f.events old None n lands.job lands.it r

    comes_by : (work : Work) (more : List Event) → Steps s f pair work more → Comes s (t ++ pair ∷ []) (progress_with f work more) plans
    comes_by work more step = comes_on s pair work more goes may step

    landed_planned : KeepsPlans plans (past_of after.landed)
    landed_planned = subst (λ (p : Past). KeepsPlans plans p) (sym after.taken.is) planned

    ended_well : (site : Site) (next : JobNext) → class_of lands.job.tool.exit_codes ending.code ≡ ExitClass.Success → IsSite given after.landed n site →
        Scans site after.flight.kept ending.millis next → Turns given after.landed n next turn new → Runs s (t ++ pair ∷ []) new turn
    ended_well site next class is_site scans turns =
        let step : Steps s f pair (scan_due lands.job.place ending.millis) (child_exited ending.ticket ∷ []) =
        exits_well lands.job.place ending lands.job lands.there known class in
        turns_at s given same laws (t ++ pair ∷ []) (picks pair) (progress_with f (scan_due lands.job.place ending.millis) (child_exited ending.ticket ∷ [])) plans
        (comes_by (scan_due lands.job.place ending.millis) (child_exited ending.ticket ∷ []) step)
        es after.landed n lands.job landed_planned lands.reflects it
        (JobNext.Asks (HostRequest.Scan (out_folder site.options.now.work site.folder)) (JobPhase.Scanning after.flight.kept ending.millis))
        turn new refl (sym (append-nil es))
        (scan_calls s.options (state_at after.landed.jobs n).folder lands.job site after.flight.kept ending.millis
        (site_fits s.options given same after.landed n lands.job site it is_site))
        lands.begun
        (subst (λ (its : JobNext). Turns given after.landed n its turn new) scans.is turns)

    ended_badly : class_of lands.job.tool.exit_codes ending.code ≡ ExitClass.Permanent →
        Turns given after.landed n (JobNext.Fails (Cause.Exit ending.code)) turn new → Runs s (t ++ pair ∷ []) new turn
    ended_badly class turns =
        let step : Steps s f pair nothing_due (child_exited ending.ticket ∷ job_failed lands.job.place (Cause.Exit ending.code) ∷ []) =
        exits_badly lands.job.place ending lands.job lands.there known class in
        turns_at s given same laws (t ++ pair ∷ []) (picks pair)
        (progress_with f nothing_due (child_exited ending.ticket ∷ job_failed lands.job.place (Cause.Exit ending.code) ∷ [])) plans
        (comes_by nothing_due (child_exited ending.ticket ∷ job_failed lands.job.place (Cause.Exit ending.code) ∷ []) step)
        es after.landed n lands.job landed_planned lands.reflects it (JobNext.Fails (Cause.Exit ending.code)) turn new refl
        (sym (append_assoc f.events (child_exited ending.ticket ∷ []) (job_failed lands.job.place (Cause.Exit ending.code) ∷ [])))
        tt tt turns

    -- its job failed for now
    module _ (class : class_of lands.job.tool.exit_codes ending.code ≡ ExitClass.Temporary) where
      abbrev more : List Event
      more = child_exited ending.ticket ∷ job_failed_for_now lands.job.place ∷ []

      abbrev later : Progress
      later = progress_with f nothing_due more

      its_comes : Comes s (t ++ pair ∷ []) later plans
      its_comes = comes_by nothing_due more (exits_for_now lands.job.place ending lands.job lands.there known class)

      gave_up_reflected : (course : Course) → GivesUp (known_in after.landed.known) n given.options.retries (past_of after.landed) (past_of course) →
          course.known ≡ after.landed.known → Reflects s later.events course None
      gave_up_reflected course gives same_known =
          subst (λ (happened : List Event). Reflects s happened course None)
          (append_assoc f.events (child_exited ending.ticket ∷ []) (job_failed_for_now lands.job.place ∷ []))
          (gave_up_reflects s es after.landed course n lands.job (past_of course) it
          (subst (λ (o : Options). GivesUp (known_in after.landed.known) n o.retries (past_of after.landed) (past_of course)) same gives) refl same_known
          lands.reflects)

      ended_for_now : AfterTemporary given after.landed n turn new → Runs s (t ++ pair ∷ []) new turn
      ended_for_now temporary =
          picks pair later plans its_comes refl temporary.tried turn new
          (given_up_planned plans (known_in after.landed.known) n given.options.retries (past_of after.landed) temporary.gives_up landed_planned)
          (gave_up_reflected temporary.tried temporary.gives_up temporary.known) temporary.picks

    ended_by : AfterEnd given after.landed after.flight lands.job.tool ending turn new → Runs s (t ++ pair ∷ []) new turn
    ended_by (well site next class is_site scans turns) = ended_well site next class is_site scans turns
    ended_by (badly class turns) = ended_badly class turns
    ended_by (for_now class temporary) = ended_for_now class temporary

    pub child_goes_on : Runs s (t ++ call [] HostRequest.Collect (HostAnswer.Ended ending) ∷ []) new turn
    child_goes_on = ended_by (subst (λ (job : Job). AfterEnd given after.landed after.flight job.tool ending turn new) one after.ends)
