-- What is asked for a job is due, and so it may be asked.
use Rattle.std.proofs.Common.{◌≡◌, ◌∙◌, ℕ, false, List, [], ◌∷◌, Some, reverse, refl, ap}
use Rattle.collected_outputs.specs.Contents.{Heads}
use Rattle.plan_checker.specs.declared.plan.Mark.{Mark}
use Rattle.proc_host.specs.declared.call.HostRequest.{HostRequest}
use Rattle.staging.specs.declared.found.Found.{Found}
use Rattle.job_graph.specs.Jobs.{Job}
use Rattle.job_graph.specs.Words.{Fields, JobPlace, Name}
use Rattle.run_rules.specs.declared.request.Request.{Request}
use Rattle.run_rules.specs.declared.setting.Options.{Options}
use Rattle.run_rules.specs.Allowed.{Allowed, due}
use Rattle.run_rules.specs.Events.{Event, Progress, Work, input_heads_due, is_fetched, number_at, output_heads_due, scan_due, start_due}
use Rattle.run_rules.specs.Scene.{Scene}
use Rattle.run_rules.specs.Steps.{fails_apart}
use Rattle.run_rules.proofs.events.Asks.{due_when}
use Rattle.run_core.specs.declared.state.Course.{Course}
use Rattle.run_core.specs.declared.state.JobPhase.{JobPhase}
use Rattle.run_core.specs.declared.state.Kept.{Kept}
use Rattle.run_core.specs.inner.Due.{call_for, work_of}
use Rattle.run_core.specs.inner.Standing.{IsWorking}
use Rattle.run_core.proofs.Work.{due_of, place_of}
use Rattle.run_core.specs.inner.JobStates.{state_at}

-- the job at a place was staged last in the folders of this number
abbrev pub IsStagedIn : List Event → JobPlace → ℕ → Type 0
IsStagedIn es place folder = (number_at es place ≡ folder) × (is_fetched es place ≡ false)

-- the same files are read, wherever the job is
inputs_alike : (options : Options) (folder : ℕ) (place : JobPlace) (staged : Fields) (todo : List Name) (read : Heads) →
    call_for options folder (input_heads_due place staged todo read) ≡ call_for options folder (input_heads_due [] staged todo read)
inputs_alike options folder place staged [] read = refl
inputs_alike options folder place staged (path ∷ todo) read = refl

outputs_alike : (options : Options) (folder : ℕ) (place : JobPlace) (millis : ℕ) (found : List Found) (todo : List Name) (read : Heads) →
    call_for options folder (output_heads_due place millis found todo read) ≡ call_for options folder (output_heads_due [] millis found todo read)
outputs_alike options folder place millis found [] read = refl
outputs_alike options folder place millis found (name ∷ todo) read = refl

-- what is asked for a job is one of these
abbrev pub IsForJob : HostRequest → Type 0
IsForJob (HostRequest.Head path limit) = Unit {0}
IsForJob (HostRequest.Start launch) = Unit {0}
IsForJob (HostRequest.Scan folder) = Unit {0}
IsForJob call = ⊥

-- and where it fails there is no rule of its own
pub for_job_apart : (call : HostRequest) → IsForJob call → fails_apart call ≡ false
for_job_apart (HostRequest.Head path limit) its = refl
for_job_apart (HostRequest.Start launch) its = refl
for_job_apart (HostRequest.Scan folder) its = refl
for_job_apart call its = absurd its

input_for_job : (options : Options) (folder : ℕ) (place : JobPlace) (staged : Fields) (todo : List Name) (read : Heads) (call : HostRequest) →
    call_for options folder (input_heads_due place staged todo read) ≡ Some call → IsForJob call
input_for_job options folder place staged [] read call is = absurd cc
input_for_job options folder place staged (path ∷ todo) read (HostRequest.Head one limit) is = tt
input_for_job options folder place staged (path ∷ todo) read call is = absurd cc

output_for_job : (options : Options) (folder : ℕ) (place : JobPlace) (millis : ℕ) (found : List Found) (todo : List Name) (read : Heads) (call : HostRequest) →
    call_for options folder (output_heads_due place millis found todo read) ≡ Some call → IsForJob call
output_for_job options folder place millis found [] read call is = absurd cc
output_for_job options folder place millis found (name ∷ todo) read (HostRequest.Head one limit) is = tt
output_for_job options folder place millis found (name ∷ todo) read call is = absurd cc

starting_for_job : (options : Options) (folder : ℕ) (place : JobPlace) (kept : Kept) (call : HostRequest) →
    call_for options folder (work_of place call (JobPhase.Starting kept)) ≡ Some call → IsForJob call
starting_for_job options folder place kept (HostRequest.Start launch) is = tt
starting_for_job options folder place kept call is = absurd cc

scan_for_job : (options : Options) (folder : ℕ) (place : JobPlace) (millis : ℕ) (call : HostRequest) →
    call_for options folder (scan_due place millis) ≡ Some call → IsForJob call
scan_for_job options folder place millis (HostRequest.Scan one) is = tt
scan_for_job options folder place millis call is = absurd cc

pub for_job : (options : Options) (folder : ℕ) (place : JobPlace) (call : HostRequest) (phase : JobPhase) →
    call_for options folder (work_of place call phase) ≡ Some call → IsForJob call
for_job options folder place call (JobPhase.Filling filling) is =
    input_for_job options folder place filling.staged (reverse filling.left) filling.heads call is
for_job options folder place call (JobPhase.Starting kept) is = starting_for_job options folder place kept call is
for_job options folder place call (JobPhase.Scanning kept millis) is = scan_for_job options folder place millis call is
for_job options folder place call (JobPhase.Reading kept reading) is =
    output_for_job options folder place reading.millis reading.found (reverse reading.left) reading.heads call is

module _ (s : Scene) (f : Progress) (marks : List Mark) where
  -- the work is that, of the job in these folders
  due_by : (place : JobPlace) (work : Work) (folder : ℕ) (call : HostRequest) → f.work ≡ work → place_of work ≡ place → IsStagedIn f.events place folder →
      call_for s.options folder work ≡ Some call → due s f ≡ Some (Request.Host place call)
  due_by place work folder call is at number calls =
      due_when s f marks work (Request.Host place call) is
      (due_of s f.events work folder call (ap (number_at f.events) at ∙ number.0) (ap (is_fetched f.events) at ∙ number.1) calls ∙ ap (λ (p : JobPlace). Some (Request.Host p call)) at)

  due_starting : (place : JobPlace) (kept : Kept) (folder : ℕ) (call : HostRequest) → f.work ≡ work_of place call (JobPhase.Starting kept) →
      IsStagedIn f.events place folder → call_for s.options folder (work_of [] call (JobPhase.Starting kept)) ≡ Some call → due s f ≡ Some (Request.Host place call)
  due_starting place kept folder (HostRequest.Start launch) is number calls =
      due_by place (start_due place kept.inputs launch) folder (HostRequest.Start launch) is refl number calls
  due_starting place kept folder call is number calls = absurd cc

  pub due_at : (place : JobPlace) (folder : ℕ) (call : HostRequest) (phase : JobPhase) → f.work ≡ work_of place call phase → IsStagedIn f.events place folder →
      call_for s.options folder (work_of [] call phase) ≡ Some call → due s f ≡ Some (Request.Host place call)
  due_at place folder call (JobPhase.Filling filling) is number calls =
      due_by place (input_heads_due place filling.staged (reverse filling.left) filling.heads) folder call is refl number
      (inputs_alike s.options folder place filling.staged (reverse filling.left) filling.heads ∙ calls)
  due_at place folder call (JobPhase.Starting kept) is number calls = due_starting place kept folder call is number calls
  due_at place folder call (JobPhase.Scanning kept millis) is number calls = due_by place (scan_due place millis) folder call is refl number calls
  due_at place folder call (JobPhase.Reading kept reading) is number calls =
      due_by place (output_heads_due place reading.millis reading.found (reverse reading.left) reading.heads) folder call is refl number
      (outputs_alike s.options folder place reading.millis reading.found (reverse reading.left) reading.heads ∙ calls)

  allowed_by : (place : JobPlace) (call : HostRequest) → IsForJob call → due s f ≡ Some (Request.Host place call) → Allowed s f marks (Request.Host place call)
  allowed_by place (HostRequest.Head path limit) its is = is
  allowed_by place (HostRequest.Start launch) its is = is
  allowed_by place (HostRequest.Scan folder) its is = is
  allowed_by place call its is = absurd its

  pub working_allowed : (course : Course) (n : ℕ) (job : Job) (call : HostRequest) (phase : JobPhase) →
      IsStagedIn f.events job.place (state_at course.jobs n).folder → IsWorking s f course n job call phase → Allowed s f marks (Request.Host job.place call)
  working_allowed course n job call phase number is =
      allowed_by job.place call (for_job s.options (state_at course.jobs n).folder [] call phase is.calls.due)
      (due_at job.place (state_at course.jobs n).folder call phase is.due number is.calls.due)
