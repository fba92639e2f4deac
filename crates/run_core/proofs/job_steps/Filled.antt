-- First bytes of an input file are read: the next file's are, or the job is started, or it fails.
use Rattle.std.proofs.Common.{◌≡◌, ◌∙◌, ℕ, List, [], ◌∷◌, ◌++◌, Some, reverse, refl, sym, ap, subst}
use Rattle.plain_data.specs.ByName.{with_value}
use Rattle.proc_host.specs.declared.call.HostAnswer.{HostAnswer}
use Rattle.proc_host.specs.declared.call.HostRequest.{HostRequest}
use Rattle.collected_outputs.specs.Contents.{Heads}
use Rattle.job_graph.specs.Jobs.{Job}
use Rattle.job_graph.specs.Words.{Name}
use Rattle.run_rules.specs.declared.request.Pair.{Pair}
use Rattle.run_rules.specs.Events.{Progress, input_heads_due, number_at}
use Rattle.run_rules.specs.Plans.{InForce, PlansSoFar}
use Rattle.run_rules.specs.Run.{Goes}
use Rattle.run_rules.specs.Scene.{Scene}
use Rattle.run_rules.specs.StartsOn.{StartsOn}
use Rattle.run_rules.specs.Steps.{Steps, call, progress_with, reads_input}
use Rattle.run_rules.proofs.events.Grows.{Comes, comes_on}
use Rattle.run_core.specs.declared.state.Course.{Course}
use Rattle.run_core.specs.declared.state.Filling.{Filling}
use Rattle.run_core.specs.declared.state.Given.{Given}
use Rattle.run_core.specs.declared.state.JobPhase.{JobPhase}
use Rattle.run_core.specs.declared.state.Turn.{Turn}
use Rattle.run_core.specs.inner.Due.{Starts, events_next, work_next}
use Rattle.run_core.specs.inner.Course.{past_of}
use Rattle.run_core.specs.inner.Keeps.{Reflects}
use Rattle.run_core.specs.inner.Picks.{AfterInputHead}
use Rattle.run_core.specs.inner.Standing.{IsWorking, Runs, KeepsPlans}
use Rattle.run_core.proofs.events.Reflecting.{Laws, folder_there, known_there, staged_there}
use Rattle.run_core.proofs.job_steps.Calls.{working_allowed}
use Rattle.run_core.proofs.job_steps.Firsts.{IsFirst, first_input}
use Rattle.run_core.proofs.job_steps.Sites.{Fits, site_fits, starts_at, starts_call, works_unstarted}
use Rattle.run_core.proofs.job_steps.Turns.{PicksNext, turns_at}
use Rattle.run_core.specs.inner.JobStates.{state_at}

module _ (s : Scene) (given : Given) (same : given.options ≡ s.options) (laws : Laws s) (t : List Pair) (picks : PicksNext s given t) (f : Progress) (plans : PlansSoFar)
    (goes : Goes s (InForce s) t f plans) where
  module _ (old : Course) (n : ℕ) (job : Job) (path : Name) (limit : ℕ) (bytes : List ℕ) (filling : Filling) (planned : KeepsPlans plans (past_of old)) (r : Reflects s f.events old (Some n))
      (is : IsWorking s f old n job (HostRequest.Head path limit) (JobPhase.Filling filling)) (turn : Turn) (new : Course)
      (after : AfterInputHead given old n filling bytes turn new) where
    abbrev folder : ℕ
    folder = (state_at old.jobs n).folder

    abbrev read : Heads
    read = with_value path bytes filling.heads

    first : IsFirst filling.left path
    first = first_input s.options folder filling.staged filling.heads filling.left path limit is.calls.due

    fits : Fits s.options folder job after.site
    fits = site_fits s.options given same old n job after.site is.it after.is_site

    its_starts : Starts after.site filling.staged read (reverse first.rest) after.next
    its_starts = after.starts.each first.rest path first.is

    on : StartsOn s.options job.place job folder filling.staged read (reverse first.rest) (work_next s.options.keep job.place after.next) (events_next job.place after.next)
    on = starts_at s.options folder job after.site fits filling.staged read (reverse first.rest) after.next its_starts

    its_number : number_at f.events job.place ≡ folder
    its_number = folder_there s f.events old (Some n) n job is.it r

    step : Steps s f (call job.place (HostRequest.Head path limit) (HostAnswer.FirstBytes bytes)) (work_next s.options.keep job.place after.next) (events_next job.place after.next)
    step =
        reads_input job.place path limit bytes filling.staged (reverse first.rest) filling.heads job (work_next s.options.keep job.place after.next) (events_next job.place after.next)
        (is.due ∙ ap (λ (todo : List Name). input_heads_due job.place filling.staged todo filling.heads) first.turned)
        (known_there s f.events old (Some n) n job is.it r)
        (subst (λ (k : ℕ). StartsOn s.options job.place job k filling.staged read (reverse first.rest) (work_next s.options.keep job.place after.next) (events_next job.place after.next))
        (sym its_number) on)

    its_comes : Comes s (t ++ call job.place (HostRequest.Head path limit) (HostAnswer.FirstBytes bytes) ∷ [])
        (progress_with f (work_next s.options.keep job.place after.next) (events_next job.place after.next)) plans
    its_comes =
        comes_on s (call job.place (HostRequest.Head path limit) (HostAnswer.FirstBytes bytes)) (work_next s.options.keep job.place after.next) (events_next job.place after.next) goes
        (working_allowed s f plans.marks old n job (HostRequest.Head path limit) (JobPhase.Filling filling) (staged_there s f.events old n job is.it r) is) step

    pub input_head_goes_on : Runs s (t ++ call job.place (HostRequest.Head path limit) (HostAnswer.FirstBytes bytes) ∷ []) new turn
    input_head_goes_on =
        turns_at s given same laws (t ++ call job.place (HostRequest.Head path limit) (HostAnswer.FirstBytes bytes) ∷ [])
        (picks (call job.place (HostRequest.Head path limit) (HostAnswer.FirstBytes bytes)))
        (progress_with f (work_next s.options.keep job.place after.next) (events_next job.place after.next)) plans its_comes
        f.events old n job planned r is.it after.next turn new refl refl
        (starts_call s.options folder job after.site fits filling.staged read (reverse first.rest) after.next its_starts)
        (works_unstarted f.events s.options job folder filling.staged read (reverse first.rest) after.next on)
        after.turns
