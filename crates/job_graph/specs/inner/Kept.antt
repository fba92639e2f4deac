-- What is kept of the walk from the root.
use Rattle.std.specs.Prelude.{◌≡◌, ◌≤◌, length, reverse, List, [], Option, Some, None, Ok}
use Rattle.document_links.specs.declared.process.Process.{Process, out-Process}
use Rattle.document_links.specs.declared.process.Process.TheOpen.{Process-F}
use Rattle.document_links.specs.declared.process.Step.{Step}
use Rattle.document_links.specs.declared.process.Workflow.{Workflow, out-Workflow}
use Rattle.job_graph.specs.Words.{Fields}
use Rattle.job_graph.specs.Inputs.{workflow_inputs_for}
use Rattle.job_graph.specs.Jobs.{Met, Walk}
use Rattle.job_graph.specs.Equations.{meaning_of}
use Rattle.job_graph.specs.declared.kept.Kept.{Kept}
use Rattle.job_graph.specs.declared.kept.Rooted.{Rooted}
use Rattle.job_graph.specs.declared.made.Facts.{Facts}
use Rattle.job_graph.specs.inner.Counts.{IsCounted}
use Rattle.job_graph.specs.inner.Going.{facts_before}
use Rattle.job_graph.specs.inner.Nested.{KeepsAlong}
use Rattle.job_graph.specs.inner.Readers.{IsTableOf}
use Rattle.job_graph.specs.inner.Rounds.{IsSettled}
use Rattle.job_graph.specs.inner.Views.{made_from, walk_of}

-- the inputs of a root workflow, the readers of its steps, their outputs and what they wait for, and what is inside one of them while nothing more is learned
pub record IsOfRoot (facts : Facts) (fields : Fields) (w : Workflow) (kept : Kept) : Type 0 where
  pub inputs : workflow_inputs_for facts.measures (out-Workflow w).inputs fields ≡ Ok kept.inputs
  pub settled : IsSettled facts [] kept.inputs (out-Workflow w).steps kept.env
  pub table : IsTableOf kept.readers (out-Workflow w).steps
  pub counted : IsCounted kept.env (out-Workflow w).steps kept.counts.items
  pub since : kept.since ≤ length facts.learned
  pub along : kept.since ≡ length facts.learned → KeepsAlong facts [] kept.inputs (out-Workflow w).steps kept.env (reverse kept.nested)

abbrev pub KeepsWorkflow : Facts → Fields → Workflow → Option Kept → Type 0
KeepsWorkflow facts fields w None = Unit {0}
KeepsWorkflow facts fields w (Some kept) = IsOfRoot facts fields w kept

-- the walk through a root workflow, and what is kept of it
pub record HasRooted (facts : Facts) (fields : Fields) (w : Workflow) (whole : Walk) (found : Rooted) : Type 0 where
  pub walk : walk_of found.walk ≡ whole
  pub kept : KeepsWorkflow facts fields w found.kept

abbrev pub AtRoot : Facts → Fields → Process-F Process Step Workflow → Kept → Type 0
AtRoot facts fields (Process-F.Tool tool) kept = ⊥
AtRoot facts fields (Process-F.Workflow w) kept = IsOfRoot facts fields w kept

abbrev pub KeepsRoot : Facts → Fields → Process → Option Kept → Type 0
KeepsRoot facts fields process None = Unit {0}
KeepsRoot facts fields process (Some kept) = AtRoot facts fields (out-Process process) kept

abbrev pub root_walk : Facts → Fields → Process → Walk
root_walk facts fields process = meaning_of facts.measures (made_from facts) process [] fields

-- what was met of which something is kept, before the place that was learned last
abbrev pub met_by : Facts → Fields → Process → Option Kept → List Met
met_by facts fields process None = []
met_by facts fields process (Some kept) = (root_walk (facts_before facts) fields process).met
