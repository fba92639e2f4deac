-- That no two steps of a workflow have one id, at any depth: what the type `Entries` keeps.
use Rattle.std.specs.Prelude.{Bool, true, not, ◌&&◌, List, [], ◌∷◌, bytes_eq}
use Rattle.std.specs.List.{list_all, list_any}
use Rattle.std.specs.Map.{keys_of}
use Rattle.document_links.specs.declared.process.Process.{Process, fold-Process}
use Rattle.document_links.specs.declared.process.Process.TheOpen.{Process-F, Workflow-F, Step-F}
use Rattle.document_links.specs.declared.process.Step.{Step, fold-Step}
use Rattle.document_links.specs.declared.process.Workflow.{Workflow, fold-Workflow}
use Rattle.job_graph.specs.Words.{Name}

-- no name is there twice
abbrev pub differ : List Name → Bool
differ [] = true
differ (name ∷ names) = not (list_any (bytes_eq name) names) && differ names

abbrev pub process_level_differs : Process-F Bool Bool Bool → Bool
process_level_differs (Process-F.Tool tool) = true
process_level_differs (Process-F.Workflow inside) = inside

abbrev pub step_level_differs : Step-F Bool Bool Bool → Bool
step_level_differs step = step.process

abbrev pub workflow_level_differs : Workflow-F Bool Bool Bool → Bool
workflow_level_differs workflow = differ (keys_of workflow.steps) && list_all (λ e. e.1) workflow.steps

-- no two steps of a workflow in it have one id
abbrev pub ids_differ : Process → Bool
ids_differ = fold-Process Bool Bool Bool process_level_differs step_level_differs workflow_level_differs

abbrev pub step_ids_differ : Step → Bool
step_ids_differ = fold-Step Bool Bool Bool process_level_differs step_level_differs workflow_level_differs

abbrev pub workflow_ids_differ : Workflow → Bool
workflow_ids_differ = fold-Workflow Bool Bool Bool process_level_differs step_level_differs workflow_level_differs
