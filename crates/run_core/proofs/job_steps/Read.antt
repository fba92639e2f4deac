-- First bytes of a file of a job's output folder are read: the next file's are, or its outputs are collected, or there are none.
use Rattle.std.proofs.Common.{◌≡◌, ◌∙◌, ℕ, List, [], ◌∷◌, ◌++◌, Some, reverse, refl, ap}
use Rattle.collected_outputs.specs.Contents.{Heads}
use Rattle.plain_data.specs.ByName.{with_value}
use Rattle.proc_host.specs.declared.call.HostAnswer.{HostAnswer}
use Rattle.proc_host.specs.declared.call.HostRequest.{HostRequest}
use Rattle.job_graph.specs.Jobs.{Job}
use Rattle.job_graph.specs.Words.{Name}
use Rattle.run_rules.specs.declared.request.Pair.{Pair}
use Rattle.run_rules.specs.CollectsOn.{CollectsOn}
use Rattle.run_rules.specs.Events.{Progress, nothing_due, output_heads_due, scan_due, row_at}
use Rattle.run_rules.specs.Plans.{InForce, PlansSoFar}
use Rattle.run_rules.specs.Run.{Goes}
use Rattle.run_rules.specs.Scene.{Scene}
use Rattle.run_rules.specs.Steps.{Steps, call, progress_with, reads_output}
use Rattle.run_rules.proofs.events.Grows.{Comes, comes_on}
use Rattle.run_core.specs.declared.state.Course.{Course}
use Rattle.run_core.specs.declared.state.Given.{Given}
use Rattle.run_core.specs.declared.state.JobPhase.{JobPhase}
use Rattle.run_core.specs.declared.state.Kept.{Kept}
use Rattle.run_core.specs.declared.state.Reading.{Reading}
use Rattle.run_core.specs.declared.state.Turn.{Turn}
use Rattle.run_core.specs.inner.Due.{Collects, call_for, events_next, work_next}
use Rattle.run_core.specs.inner.Follows.{FollowsWork}
use Rattle.run_core.specs.inner.Course.{past_of}
use Rattle.run_core.specs.inner.Keeps.{Reflects}
use Rattle.run_core.specs.inner.Picks.{AfterOutputHead}
use Rattle.run_core.specs.inner.Standing.{IsWorking, Runs, KeepsPlans}
use Rattle.run_core.proofs.events.Reflecting.{Laws, staged_there, known_there}
use Rattle.run_core.proofs.job_steps.Calls.{working_allowed}
use Rattle.run_core.proofs.job_steps.Filled.{input_head_goes_on}
use Rattle.run_core.proofs.job_steps.Firsts.{HasFirst, first_output}
use Rattle.run_core.proofs.job_steps.Sites.{Fits, site_fits, collects_at, collects_call, works_started, row_fits}
use Rattle.run_core.proofs.job_steps.Turns.{PicksNext, turns_at}
use Rattle.run_core.specs.inner.JobStates.{state_at}

module _ (s : Scene) (given : Given) (same : given.options ≡ s.options) (laws : Laws s) (t : List Pair) (picks : PicksNext s given t) (f : Progress) (plans : PlansSoFar)
    (goes : Goes s (InForce s) t f plans) where
  module _ (old : Course) (n : ℕ) (job : Job) (path : Name) (limit : ℕ) (bytes : List ℕ) (planned : KeepsPlans plans (past_of old)) (r : Reflects s f.events old (Some n)) (turn : Turn) (new : Course) where
    abbrev folder : ℕ
    folder = (state_at old.jobs n).folder

    module _ (kept : Kept) (reading : Reading) (is : IsWorking s f old n job (HostRequest.Head path limit) (JobPhase.Reading kept reading))
        (after : AfterOutputHead given old n kept reading bytes turn new) where
      next_file : HasFirst reading.left
      next_file = first_output s.options folder reading.millis reading.found reading.heads reading.left (HostRequest.Head path limit) is.calls.due

      abbrev read : Heads
      read = with_value next_file.name bytes reading.heads

      abbrev todo : List Name
      todo = reverse next_file.first.rest

      fits : Fits s.options folder job after.site
      fits = site_fits s.options given same old n job after.site is.it after.is_site

      its_collects : Collects after.site kept reading.millis reading.found read todo after.next
      its_collects = after.collects.each next_file.first.rest next_file.name next_file.first.is

      on : CollectsOn s.options.keep job.place job (row_at f.events job.place) is.on.started reading.millis reading.found read todo (work_next s.options.keep job.place after.next) (events_next job.place after.next)
      on = collects_at s.options folder job after.site fits (row_at f.events job.place) (row_fits s given f.events old (Some n) n job after.site is.it after.is_site r) f.events kept reading.millis reading.found read todo after.next is.on its_collects

      step : Steps s f (call job.place (HostRequest.Head path limit) (HostAnswer.FirstBytes bytes)) (work_next s.options.keep job.place after.next) (events_next job.place after.next)
      step =
          reads_output job.place path limit bytes reading.millis reading.found next_file.name todo reading.heads job is.on.started (work_next s.options.keep job.place after.next)
          (events_next job.place after.next)
          (is.due ∙ ap (λ (names : List Name). output_heads_due job.place reading.millis reading.found names reading.heads) next_file.first.turned)
          (known_there s f.events old (Some n) n job is.it r) is.on.at on

      its_comes : Comes s (t ++ call job.place (HostRequest.Head path limit) (HostAnswer.FirstBytes bytes) ∷ [])
          (progress_with f (work_next s.options.keep job.place after.next) (events_next job.place after.next)) plans
      its_comes =
          comes_on s (call job.place (HostRequest.Head path limit) (HostAnswer.FirstBytes bytes)) (work_next s.options.keep job.place after.next) (events_next job.place after.next) goes
          (working_allowed s f plans.marks old n job (HostRequest.Head path limit) (JobPhase.Reading kept reading) (staged_there s f.events old n job is.it r) is) step

      output_head_goes_on : Runs s (t ++ call job.place (HostRequest.Head path limit) (HostAnswer.FirstBytes bytes) ∷ []) new turn
      output_head_goes_on =
          turns_at s given same laws (t ++ call job.place (HostRequest.Head path limit) (HostAnswer.FirstBytes bytes) ∷ [])
          (picks (call job.place (HostRequest.Head path limit) (HostAnswer.FirstBytes bytes)))
          (progress_with f (work_next s.options.keep job.place after.next) (events_next job.place after.next)) plans its_comes
          f.events old n job planned r is.it after.next turn new refl refl
          (collects_call s.options folder job after.site fits kept reading.millis reading.found read todo after.next its_collects)
          (works_started s.options.keep f.events job (row_at f.events job.place) kept is.on.started reading.millis reading.found read todo after.next is.on its_collects.keeps on)
          after.turns

    -- first bytes are of an input file, or of a file of the output folder
    pub bytes_go_on : (phase : JobPhase) → IsWorking s f old n job (HostRequest.Head path limit) phase → FollowsWork given old n phase (HostAnswer.FirstBytes bytes) turn new →
        Runs s (t ++ call job.place (HostRequest.Head path limit) (HostAnswer.FirstBytes bytes) ∷ []) new turn
    bytes_go_on (JobPhase.Filling filling) is after =
        input_head_goes_on s given same laws t picks f plans goes old n job path limit bytes filling planned r is turn new after
    bytes_go_on (JobPhase.Starting kept) is after = let never : call_for s.options folder nothing_due ≡ Some (HostRequest.Head path limit) = is.calls.due in absurd cc
    bytes_go_on (JobPhase.Scanning kept millis) is after =
        let never : call_for s.options folder (scan_due [] millis) ≡ Some (HostRequest.Head path limit) = is.calls.due in absurd cc
    bytes_go_on (JobPhase.Reading kept reading) is after = output_head_goes_on kept reading is after
