-- The tool that is run for the job at a place (CWL v1.2, Workflow Description, "WorkflowStep").
use Rattle.std.specs.Prelude.{ℕ, List, [], ◌∷◌, Option, Some, None, option_map}
use Rattle.std.specs.Option.{option_and_then}
use Rattle.cwl_process.specs.declared.tool.Tool.{Tool}
use Rattle.cwl_value.specs.declared.place.Segment.{Segment}
use Rattle.document_links.specs.declared.process.Process.{Process, out-Process}
use Rattle.document_links.specs.declared.process.Process.TheOpen.{Process-F}
use Rattle.document_links.specs.declared.process.Step.{Step, out-Step}
use Rattle.document_links.specs.declared.process.Workflow.{Workflow, out-Workflow}
use Rattle.run_facts.specs.Entries.{entry_of}

abbrev pub Seen : Type 0
Seen = Process-F Process Step Workflow

abbrev pub tool_in : Seen → Option Tool
tool_in (Process-F.Tool tool) = Some tool
tool_in (Process-F.Workflow workflow) = None

abbrev pub inner_in : List ℕ → Seen → Option Process
inner_in id (Process-F.Tool tool) = None
inner_in id (Process-F.Workflow workflow) = option_map (λ step. (out-Step step).process) (entry_of id (out-Workflow workflow).steps)

-- the process of a step
abbrev pub inner : Process → List ℕ → Option Process
inner process id = inner_in id (out-Process process)

-- the process at the end of a place's steps
abbrev pub process_at : Process → List Segment → Option Process
process_at process [] = Some process
process_at process (segment ∷ place) = option_and_then (λ inside. process_at inside place) (inner process segment.step)

abbrev pub tool_at : Process → List Segment → Option Tool
tool_at process place = option_and_then (λ inside. tool_in (out-Process inside)) (process_at process place)

-- the tool of a step
abbrev pub step_tool : Process → (id : List ℕ) → Option Tool
step_tool process id = option_and_then (λ inside. tool_in (out-Process inside)) (inner process id)
