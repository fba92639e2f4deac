-- Of which steps of a workflow a plan doesn't know all jobs: what these read is made by jobs that are still to be run. A job is known once all
-- that its step's inputs are linked to is known (CWL v1.2, Workflow Description, "WorkflowStepInput").
use Rattle.std.specs.Prelude.{◌≡◌, ◌↔◌, ℕ, zero, suc, Bool, true, false, not, ◌&&◌, ◌||◌, Contains, List, [], ◌∷◌, Option, Some, None, bytes_eq, length, map, position, slice_get, slice_index_or, unwrap_or, if◌then◌else◌}
use Rattle.std.specs.List.{flat_map, list_any}
use Rattle.std.specs.Option.{option_map_or}
use Rattle.cwl_process.specs.declared.links.Source.{Source}
use Rattle.cwl_process.specs.declared.workflow.StepInput.{StepInput}
use Rattle.cwl_value.specs.declared.place.Segment.{Segment}
use Rattle.document_links.specs.declared.process.Process.{Process, out-Process}
use Rattle.document_links.specs.declared.process.Process.TheOpen.{Process-F}
use Rattle.document_links.specs.declared.process.Step.{Step, out-Step}
use Rattle.document_links.specs.declared.process.Workflow.{Workflow, out-Workflow}
use Rattle.plan_waits.specs.declared.waiting.PlannedJob.{PlannedJob}
use Rattle.plan_waits.specs.declared.waiting.Standing.{Standing}

abbrev pub Steps : Type 0
Steps = List (List ℕ × Step)

abbrev pub Seen : Type 0
Seen = Process-F Process Step Workflow

-- ---- which step reads which

abbrev pub is_from : (id : List ℕ) → Source → Bool
is_from id source = option_map_or (λ step. bytes_eq step id) source.step false

abbrev pub sources_of : StepInput → List Source
sources_of input = unwrap_or input.links.sources []

abbrev pub is_linked_to : (id : List ℕ) → StepInput → Bool
is_linked_to id input = list_any (is_from id) (sources_of input)

-- an input of the step is linked to an output of the step of this id
abbrev pub reads : (id : List ℕ) → List ℕ × Step → Bool
reads id step = list_any (λ input. is_linked_to id input.1) (out-Step step.1).inputs

abbrev pub read_in : (id : List ℕ) → Seen → Bool
read_in id (Process-F.Tool tool) = false
read_in id (Process-F.Workflow workflow) = list_any (reads id) (out-Workflow workflow).steps

abbrev pub is_read_in : Process → (id : List ℕ) → Bool
is_read_in process id = read_in id (out-Process process)

abbrev pub numbered : Option ℕ → List ℕ
numbered None = []
numbered (Some number) = number ∷ []

-- the number of the step of an id
abbrev pub number_at : Steps → Option (List ℕ) → Option ℕ
number_at steps None = None
number_at steps (Some id) = position (λ step. bytes_eq step.0 id) steps

-- of the step that a link leads to
abbrev pub read_by : Steps → Source → List ℕ
read_by steps source = numbered (number_at steps source.step)

abbrev pub reads_by : Steps → List ℕ × StepInput → List ℕ
reads_by steps input = flat_map (read_by steps) (sources_of input.1)

-- ---- the known jobs of a step

abbrev pub is_at : (id : List ℕ) → List Segment → Bool
is_at id [] = false
is_at id (segment ∷ place) = bytes_eq segment.step id

-- of the step of this id, or inside it
abbrev pub is_job_of : (id : List ℕ) → PlannedJob → Bool
is_job_of id job = is_at id job.place

abbrev pub is_open_job_of : (id : List ℕ) → PlannedJob → Bool
is_open_job_of id job = job.is_open && is_at id job.place

-- the process of the step of this id
abbrev pub step_process : (id : List ℕ) → Steps → Option Process
step_process id [] = None
step_process id (step ∷ steps) = if bytes_eq step.0 id then Some (out-Step step.1).process else step_process id steps

abbrev pub inner_in : (id : List ℕ) → Seen → Option Process
inner_in id (Process-F.Tool tool) = None
inner_in id (Process-F.Workflow workflow) = step_process id (out-Workflow workflow).steps

abbrev pub inner : Process → (id : List ℕ) → Option Process
inner process id = inner_in id (out-Process process)

-- on the way to a place inside a process a step is read by another one
abbrev pub is_awaited : Process → List Segment → Bool
is_awaited process [] = false
is_awaited process (segment ∷ place) =
    is_read_in process segment.step || option_map_or (λ inside. is_awaited inside place) (inner process segment.step) false

abbrev pub is_awaited_in : Process → (id : List ℕ) → List Segment → Bool
is_awaited_in process id [] = false
is_awaited_in process id (segment ∷ place) = bytes_eq segment.step id && is_awaited process place

abbrev pub is_awaited_job_of : Process → (id : List ℕ) → PlannedJob → Bool
is_awaited_job_of process id job = job.is_open && is_awaited_in process id job.place

-- ---- the steps that wait

abbrev pub standing : Steps → List PlannedJob → List ℕ × Step → Standing
standing steps jobs step = record {
  id = step.0;
  reads = flat_map (reads_by steps) (out-Step step.1).inputs;
  is_known = list_any (is_job_of step.0) jobs;
  is_open = list_any (is_open_job_of step.0) jobs;
  is_open_inside = list_any (is_awaited_job_of (out-Step step.1).process step.0) jobs;
}

abbrev pub open_at : List Bool → ℕ → Bool
open_at flags number = slice_index_or flags number false

-- no job of the step is known, and it reads an open one
abbrev pub waits : List Bool → Standing → Bool
waits flags step = not step.is_known && list_any (open_at flags) step.reads

abbrev pub is_open : List Bool → Standing → Bool
is_open flags step = step.is_open || waits flags step

-- open are the steps with an open job, and those that wait, by at most so many links one after another
abbrev pub open_within : ℕ → List Standing → List Bool
open_within zero steps = map (λ step. step.is_open) steps
open_within (suc links) steps = map (is_open (open_within links steps)) steps

abbrev pub open_steps : List Standing → List Bool
open_steps steps = open_within (length steps) steps

-- the same without a count of links, of the step of a number
pub data IsOpen (steps : List Standing) : ℕ → Type 0 where
  has_open : {i : ℕ} (step : Standing) → slice_get steps i ≡ Some step → step.is_open ≡ true → IsOpen steps i
  reads_open : {i : ℕ} (step : Standing) (read : ℕ) → slice_get steps i ≡ Some step → step.is_known ≡ false → Contains step.reads read → IsOpen steps read → IsOpen steps i

-- no step is reached by more links than there are steps
abbrev pub OpenStepsAreOpen : Type 0
OpenStepsAreOpen = (steps : List Standing) (i : ℕ) → (open_at (open_steps steps) i ≡ true) ↔ IsOpen steps i

-- a step that waits, or a workflow in which one does
abbrev pub named : List Bool → Standing → List (List ℕ)
named flags step = if step.is_open_inside || waits flags step then step.id ∷ [] else []

abbrev pub waiting_among : List Standing → List (List ℕ)
waiting_among steps = flat_map (named (open_steps steps)) steps

abbrev pub waiting_in : List PlannedJob → Seen → List (List ℕ)
waiting_in jobs (Process-F.Tool tool) = []
waiting_in jobs (Process-F.Workflow workflow) =
    waiting_among (map (standing (out-Workflow workflow).steps jobs) (out-Workflow workflow).steps)

-- the ids of those steps, in the order of the document
abbrev pub waiting_steps : Process → List PlannedJob → List (List ℕ)
waiting_steps process jobs = waiting_in jobs (out-Process process)
