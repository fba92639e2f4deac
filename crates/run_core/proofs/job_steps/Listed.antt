-- A job's output folder is listed: first bytes of what was found are read, or its outputs are collected, or there are none.
use Rattle.std.proofs.Common.{◌≡◌, ℕ, List, [], ◌∷◌, ◌++◌, Some, reverse, refl, subst}
use Rattle.collected_outputs.specs.HeadsWanted.{AreHeadsWanted}
use Rattle.collected_outputs.specs.Listing.{listing_of}
use Rattle.cwl_process.specs.declared.tool.Tool.{Tool}
use Rattle.proc_host.specs.declared.call.HostAnswer.{HostAnswer}
use Rattle.proc_host.specs.declared.call.HostRequest.{HostRequest}
use Rattle.staging.specs.declared.found.Found.{Found}
use Rattle.job_graph.specs.Jobs.{Job}
use Rattle.job_graph.specs.Words.{Fields, Name}
use Rattle.run_rules.specs.declared.request.Pair.{Pair}
use Rattle.run_rules.specs.CollectsOn.{CollectsOn}
use Rattle.run_rules.specs.Events.{Progress, nothing_due, row_at}
use Rattle.run_rules.specs.Plans.{InForce, PlansSoFar}
use Rattle.run_rules.specs.Run.{Goes}
use Rattle.run_rules.specs.Scene.{Scene}
use Rattle.run_rules.specs.Steps.{Steps, call, progress_with, scans}
use Rattle.run_rules.proofs.events.Grows.{Comes, comes_on}
use Rattle.run_core.specs.declared.state.Course.{Course}
use Rattle.run_core.specs.declared.state.Given.{Given}
use Rattle.run_core.specs.declared.state.JobPhase.{JobPhase}
use Rattle.run_core.specs.declared.state.Kept.{Kept}
use Rattle.run_core.specs.declared.state.Turn.{Turn}
use Rattle.run_core.specs.inner.Due.{call_for, events_next, work_next}
use Rattle.run_core.specs.inner.Course.{past_of}
use Rattle.run_core.specs.inner.Keeps.{Reflects}
use Rattle.run_core.specs.inner.Follows.{FollowsWork}
use Rattle.run_core.specs.inner.Picks.{AfterListing}
use Rattle.run_core.specs.inner.Standing.{IsWorking, Runs, KeepsPlans}
use Rattle.run_core.proofs.events.Reflecting.{Laws, staged_there, known_there}
use Rattle.run_core.proofs.job_steps.Calls.{working_allowed}
use Rattle.run_core.proofs.job_steps.Firsts.{never_input, never_output}
use Rattle.run_core.proofs.job_steps.Sites.{Fits, site_fits, collects_at, collects_call, works_started, row_fits}
use Rattle.run_core.proofs.job_steps.Turns.{PicksNext, turns_at}
use Rattle.run_core.specs.inner.JobStates.{state_at}

module _ (s : Scene) (given : Given) (same : given.options ≡ s.options) (laws : Laws s) (t : List Pair) (picks : PicksNext s given t) (f : Progress) (plans : PlansSoFar)
    (goes : Goes s (InForce s) t f plans) where
  module _ (old : Course) (n : ℕ) (job : Job) (its_folder : Name) (found : List Found) (planned : KeepsPlans plans (past_of old)) (r : Reflects s f.events old (Some n)) (turn : Turn) (new : Course) where
    abbrev folder : ℕ
    folder = (state_at old.jobs n).folder

    module _ (kept : Kept) (millis : ℕ) (is : IsWorking s f old n job (HostRequest.Scan its_folder) (JobPhase.Scanning kept millis))
        (after : AfterListing given old n kept millis found turn new) where
      fits : Fits s.options folder job after.site
      fits = site_fits s.options given same old n job after.site is.it after.is_site

      on : CollectsOn s.options.keep job.place job (row_at f.events job.place) is.on.started millis found [] after.collects.wanted (work_next s.options.keep job.place after.next) (events_next job.place after.next)
      on = collects_at s.options folder job after.site fits (row_at f.events job.place) (row_fits s given f.events old (Some n) n job after.site is.it after.is_site r) f.events kept millis found [] after.collects.wanted after.next is.on after.collects.on

      wanted : AreHeadsWanted (listing_of found) is.on.started.inputs job.tool.outputs after.collects.wanted
      wanted =
          subst (λ (inputs : Fields). AreHeadsWanted (listing_of found) inputs job.tool.outputs after.collects.wanted) is.on.kept_is.inputs
          (subst (λ (tool : Tool). AreHeadsWanted (listing_of found) kept.inputs tool.outputs after.collects.wanted) fits.tool after.collects.are)

      step : Steps s f (call job.place (HostRequest.Scan its_folder) (HostAnswer.Listed found)) (work_next s.options.keep job.place after.next) (events_next job.place after.next)
      step =
          scans job.place its_folder millis found job is.on.started after.collects.wanted (work_next s.options.keep job.place after.next) (events_next job.place after.next)
          is.due (known_there s f.events old (Some n) n job is.it r) is.on.at wanted on

      its_comes : Comes s (t ++ call job.place (HostRequest.Scan its_folder) (HostAnswer.Listed found) ∷ [])
          (progress_with f (work_next s.options.keep job.place after.next) (events_next job.place after.next)) plans
      its_comes =
          comes_on s (call job.place (HostRequest.Scan its_folder) (HostAnswer.Listed found)) (work_next s.options.keep job.place after.next) (events_next job.place after.next) goes
          (working_allowed s f plans.marks old n job (HostRequest.Scan its_folder) (JobPhase.Scanning kept millis) (staged_there s f.events old n job is.it r) is) step

      scan_goes_on : Runs s (t ++ call job.place (HostRequest.Scan its_folder) (HostAnswer.Listed found) ∷ []) new turn
      scan_goes_on =
          turns_at s given same laws (t ++ call job.place (HostRequest.Scan its_folder) (HostAnswer.Listed found) ∷ [])
          (picks (call job.place (HostRequest.Scan its_folder) (HostAnswer.Listed found)))
          (progress_with f (work_next s.options.keep job.place after.next) (events_next job.place after.next)) plans its_comes
          f.events old n job planned r is.it after.next turn new refl refl
          (collects_call s.options folder job after.site fits kept millis found [] after.collects.wanted after.next after.collects.on)
          (works_started s.options.keep f.events job (row_at f.events job.place) kept is.on.started millis found [] after.collects.wanted after.next is.on after.collects.on.keeps on)
          after.turns

    -- a folder is listed in no other phase
    pub listing_goes_on : (phase : JobPhase) → IsWorking s f old n job (HostRequest.Scan its_folder) phase → FollowsWork given old n phase (HostAnswer.Listed found) turn new →
        Runs s (t ++ call job.place (HostRequest.Scan its_folder) (HostAnswer.Listed found) ∷ []) new turn
    listing_goes_on (JobPhase.Filling filling) is after =
        absurd (never_input s.options folder filling.staged filling.heads (reverse filling.left) its_folder is.calls.due)
    listing_goes_on (JobPhase.Starting kept) is after = let never : call_for s.options folder nothing_due ≡ Some (HostRequest.Scan its_folder) = is.calls.due in absurd cc
    listing_goes_on (JobPhase.Scanning kept millis) is after = scan_goes_on kept millis is after
    listing_goes_on (JobPhase.Reading kept reading) is after =
        absurd (never_output s.options folder reading.millis reading.found reading.heads (reverse reading.left) its_folder is.calls.due)
