-- That what made the Files and Directories in the inputs of known jobs was learned: each of them comes from what is given, from a default
-- of the process, or from the outputs of a place that was learned.
use Rattle.std.specs.Prelude.{◌≡◌, ◌||◌, ℕ, Bool, true, false, All, IsSomeAnd, List, Option, is_some, slice_get}
use Rattle.std.specs.List.{list_any}
use Rattle.std.specs.Option.{option_map_or}
use Rattle.cwl_value.specs.declared.value.Value.{Value}
use Rattle.document_links.specs.declared.process.Process.{Process, fold-Process}
use Rattle.document_links.specs.declared.process.Process.TheOpen.{Process-F, Workflow-F, Step-F}
use Rattle.document_links.specs.declared.process.Step.{Step, fold-Step}
use Rattle.document_links.specs.declared.process.Workflow.{Workflow, fold-Workflow}
use Rattle.job_graph.specs.Words.{Fields, JobPlace}
use Rattle.job_graph.specs.Jobs.{Job}
use Rattle.job_graph.specs.Made.{any_made, holds_made}
use Rattle.job_graph.specs.Unfold.{Resolved, outputs_at}

-- ---- the defaults of a process and of those inside it

module _ (test : Value → Bool) where
  abbrev pub is_hit : Option Value → Bool
  is_hit default = option_map_or test default false

  abbrev pub process_level_hits : Process-F Bool Bool Bool → Bool
  process_level_hits (Process-F.Tool tool) = list_any (λ i. is_hit i.1.default) tool.inputs
  process_level_hits (Process-F.Workflow inside) = inside

  abbrev pub step_level_hits : Step-F Bool Bool Bool → Bool
  step_level_hits step = list_any (λ i. is_hit i.1.default) step.inputs || step.process

  abbrev pub workflow_level_hits : Workflow-F Bool Bool Bool → Bool
  workflow_level_hits workflow = list_any (λ i. is_hit i.1.default) workflow.inputs || list_any (λ e. e.1) workflow.steps

  -- whether one of the defaults passes the test
  abbrev pub any_default : Process → Bool
  any_default = fold-Process Bool Bool Bool process_level_hits step_level_hits workflow_level_hits

  abbrev pub any_step_default : Step → Bool
  any_step_default = fold-Step Bool Bool Bool process_level_hits step_level_hits workflow_level_hits

  abbrev pub any_workflow_default : Workflow → Bool
  any_workflow_default = fold-Workflow Bool Bool Bool process_level_hits step_level_hits workflow_level_hits

-- ---- where no job made anything

-- no File or Directory in these was made by a job, at any depth
abbrev pub AreUnmade : Fields → Type 0
AreUnmade fields = (job : JobPlace) → any_made job fields ≡ false

-- nor in a default of the process
abbrev pub HasUnmadeDefaults : Process → Type 0
HasUnmadeDefaults process = (job : JobPlace) → any_default (holds_made job) process ≡ false

-- the outputs are as their jobs name them: what a job made is at a relative name in its output folder
abbrev pub AreNamed : List Resolved → Type 0
AreNamed learned = All (λ r. AreUnmade r.outputs) learned

-- ---- what was learned

abbrev pub IsLearned : List Resolved → JobPlace → Type 0
IsLearned learned place = is_some (outputs_at learned place) ≡ true

-- there is a job of this number, and its outputs were learned
abbrev pub IsLearnedJob : List Resolved → List Job → ℕ → Type 0
IsLearnedJob learned jobs n = IsSomeAnd (slice_get jobs n) (λ job. IsLearned learned job.place)
