-- A job's child is started.
use Rattle.std.proofs.Common.{◌≡◌, ℕ, List, [], ◌∷◌, ◌++◌, Some, None, reverse, refl, ap, subst, sym}
use Rattle.command_line.specs.declared.launch.Launch.{Launch}
use Rattle.proc_host.specs.Tickets.{IsFresh}
use Rattle.proc_host.specs.declared.call.HostAnswer.{HostAnswer}
use Rattle.proc_host.specs.declared.call.HostRequest.{HostRequest}
use Rattle.job_graph.specs.Jobs.{Job}
use Rattle.run_rules.specs.declared.request.Pair.{Pair}
use Rattle.run_rules.specs.Events.{Event, Progress, job_started, nothing_due, scan_due}
use Rattle.run_rules.specs.Plans.{InForce, PlansSoFar}
use Rattle.run_rules.specs.Run.{Goes}
use Rattle.run_rules.specs.Scene.{Scene}
use Rattle.run_rules.specs.Steps.{call, progress_with, starts}
use Rattle.run_rules.proofs.events.Grows.{Comes, comes_on}
use Rattle.run_core.specs.declared.state.Course.{Course}
use Rattle.run_core.specs.declared.state.Given.{Given}
use Rattle.run_core.specs.declared.state.JobPhase.{JobPhase}
use Rattle.run_core.specs.declared.state.Kept.{Kept}
use Rattle.run_core.specs.declared.state.Turn.{Turn}
use Rattle.run_core.specs.inner.Follows.{FollowsWork}
use Rattle.run_core.specs.inner.Due.{IsKept, call_for, kept_of}
use Rattle.run_core.specs.inner.Course.{Past, past_of}
use Rattle.run_core.specs.inner.Keeps.{Reflects}
use Rattle.run_core.specs.inner.Picks.{AfterStart}
use Rattle.run_core.specs.inner.Standing.{IsWorking, Runs, KeepsPlans}
use Rattle.run_core.proofs.events.Reflecting.{staged_there, started_reflects}
use Rattle.run_core.proofs.job_steps.Calls.{working_allowed}
use Rattle.run_core.proofs.job_steps.Firsts.{input_starts_none, output_starts_none}
use Rattle.run_core.proofs.job_steps.Turns.{PicksNext}
use Rattle.run_core.specs.inner.JobStates.{state_at}

-- what is kept is of the launch
kept_so : (kept : Kept) (launch : Launch) → kept ≡ kept_of kept.inputs launch → IsKept kept (record { inputs = kept.inputs; launch = launch })
kept_so kept launch is = record { inputs = refl; stdout = ap (λ (k : Kept). k.stdout) is; stderr = ap (λ (k : Kept). k.stderr) is }

module _ (s : Scene) (given : Given) (t : List Pair) (picks : PicksNext s given t) (f : Progress) (plans : PlansSoFar) (goes : Goes s (InForce s) t f plans) where
  module _ (old : Course) (n : ℕ) (job : Job) (launch : Launch) (ticket : ℕ) (planned : KeepsPlans plans (past_of old)) (r : Reflects s f.events old (Some n)) (fresh : IsFresh ticket old.tickets.items)
      (turn : Turn) (new : Course) where
    abbrev pair : Pair
    pair = call job.place (HostRequest.Start launch) (HostAnswer.Started ticket)

    module _ (kept : Kept) (is : IsWorking s f old n job (HostRequest.Start launch) (JobPhase.Starting kept)) (after : AfterStart given old n kept ticket turn new) where
      abbrev more : List Event
      more = job_started job.place kept.inputs launch ticket ∷ []

      its_comes : Comes s (t ++ pair ∷ []) (progress_with f nothing_due more) plans
      its_comes =
          comes_on s pair nothing_due more goes
          (working_allowed s f plans.marks old n job (HostRequest.Start launch) (JobPhase.Starting kept) (staged_there s f.events old n job is.it r) is)
          (starts job.place kept.inputs launch ticket is.due)

      started_is : Reflects s (f.events ++ more) after.started None
      started_is =
          started_reflects s f.events old after.started n job kept.inputs launch kept ticket is.it (kept_so kept launch is.calls.fits) fresh after.past after.known r

      child_started : Runs s (t ++ pair ∷ []) new turn
      child_started =
          picks pair (progress_with f nothing_due more) plans its_comes refl after.started turn new (subst (λ (p : Past). KeepsPlans plans p) (sym after.past) planned) started_is
          after.picks

    -- none is started in another phase
    pub start_goes_on : (phase : JobPhase) → IsWorking s f old n job (HostRequest.Start launch) phase → FollowsWork given old n phase (HostAnswer.Started ticket) turn new →
        Runs s (t ++ call job.place (HostRequest.Start launch) (HostAnswer.Started ticket) ∷ []) new turn
    start_goes_on (JobPhase.Filling filling) is after =
        absurd (input_starts_none s.options (state_at old.jobs n).folder filling.staged filling.heads (reverse filling.left) launch is.calls.due)
    start_goes_on (JobPhase.Starting kept) is after = child_started kept is after
    start_goes_on (JobPhase.Scanning kept millis) is after =
        let never : call_for s.options (state_at old.jobs n).folder (scan_due [] millis) ≡ Some (HostRequest.Start launch) = is.calls.due in absurd cc
    start_goes_on (JobPhase.Reading kept reading) is after =
        absurd (output_starts_none s.options (state_at old.jobs n).folder reading.millis reading.found reading.heads (reverse reading.left) launch is.calls.due)
