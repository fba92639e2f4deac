-- The walk of a workflow, and from a root that is one, by its steps.
use Rattle.std.proofs.Common.{◌≡◌, ◌∙◌, List, [], ◌∷◌, Bool, true, Ok, refl, sym, ap}
use Rattle.std.specs.Prelude.{◌&&◌}
use Rattle.std.specs.List.{list_all}
use Rattle.document_links.specs.declared.process.Process.{Process, out-Process, roll-Process}
use Rattle.document_links.specs.declared.process.Process.TheOpen.{Process-F}
use Rattle.document_links.specs.declared.process.Process.TheVariants.{rolls-Workflow}
use Rattle.document_links.specs.declared.process.Process.TheViews.{roll-out-Process, roll-out-Workflow}
use Rattle.document_links.specs.declared.process.Step.{Step}
use Rattle.document_links.specs.declared.process.Workflow.{Workflow, out-Workflow}
use Rattle.input_files.specs.Measured.{Measures}
use Rattle.plain_data.specs.ByName.{map_values}
use Rattle.job_graph.specs.Apart.{differ, ids_differ, step_ids_differ, workflow_ids_differ}
use Rattle.job_graph.specs.Words.{Name, Fields, JobPlace}
use Rattle.job_graph.specs.Inputs.{workflow_inputs_for}
use Rattle.job_graph.specs.Jobs.{Made}
use Rattle.job_graph.specs.Equations.{Meaning, meaning_of, workflow_at, workflow_meaning_of}
use Rattle.job_graph.specs.inner.Levels.{steps_walk}
use Rattle.job_graph.proofs.laws_of_walks.Part.{and_left, and_right}
use Rattle.job_graph.proofs.laws_of_walks.Places.{ids_of, steps_differ, workflow_differs}
use Rattle.job_graph.proofs.laws_of_walks.Processes.{meanings, workflow_in, workflow_level, workflow_of}

module _ (measures : Measures) (made : Made) (w : Workflow) where
  pub of_workflow : (place : JobPlace) (fields inputs : Fields) → workflow_inputs_for measures (out-Workflow w).inputs fields ≡ Ok inputs
      → workflow_meaning_of measures made w place fields ≡ steps_walk (out-Workflow w).outputs (meanings measures made (out-Workflow w).steps) place inputs
  of_workflow place fields inputs is =
      ap (λ (v : Workflow). workflow_meaning_of measures made v place fields) (sym (roll-out-Workflow w))
      ∙ ap (λ (m : Meaning). m place fields) (workflow_level measures made (out-Workflow w))
      ∙ ap (workflow_at (workflow_of (out-Workflow w) (meanings measures made (out-Workflow w).steps)) place) is

  pub of_root : (p : Process) → out-Process p ≡ Process-F.Workflow w → (place : JobPlace) (fields : Fields) → meaning_of measures made p place fields ≡ workflow_meaning_of measures made w place fields
  of_root p is place fields =
      ap (λ (q : Process). meaning_of measures made q place fields) (sym (roll-out-Process p) ∙ ap roll-Process is ∙ rolls-Workflow w)
      ∙ ap (λ (m : Meaning). m place fields) (workflow_in measures made w)

-- ---- the ids of its steps

each_differs : (steps : List (Name × Step)) → list_all (λ e. e.1) (map_values step_ids_differ steps) ≡ list_all (λ s. step_ids_differ s.1) steps
each_differs [] = refl
each_differs (e ∷ es) = ap (λ (b : Bool). step_ids_differ e.1 && b) (each_differs es)

pub inside_workflow : (w : Workflow) → workflow_ids_differ w ≡ true → list_all (λ s. step_ids_differ s.1) (out-Workflow w).steps ≡ true
inside_workflow w apart =
    sym (each_differs (out-Workflow w).steps)
    ∙ and_right (differ (ids_of (out-Workflow w).steps)) (list_all (λ e. e.1) (map_values step_ids_differ (out-Workflow w).steps))
    (sym (ap workflow_ids_differ (sym (roll-out-Workflow w)) ∙ steps_differ (out-Workflow w)) ∙ apart)

pub steps_apart : (w : Workflow) → workflow_ids_differ w ≡ true → differ (ids_of (out-Workflow w).steps) ≡ true
steps_apart w apart =
    and_left (differ (ids_of (out-Workflow w).steps)) (list_all (λ e. e.1) (map_values step_ids_differ (out-Workflow w).steps))
    (sym (ap workflow_ids_differ (sym (roll-out-Workflow w)) ∙ steps_differ (out-Workflow w)) ∙ apart)

pub root_apart : (p : Process) (w : Workflow) → out-Process p ≡ Process-F.Workflow w → ids_differ p ≡ true → workflow_ids_differ w ≡ true
root_apart p w is apart =
    sym (workflow_differs w) ∙ ap ids_differ (sym (sym (roll-out-Process p) ∙ ap roll-Process is ∙ rolls-Workflow w)) ∙ apart
