-- Structural induction over processes, and what a process means, level by level.
use Rattle.std.proofs.Common.{◌≡◌, List, [], ◌∷◌, sym, subst, rules}
use Rattle.std.specs.List.{AllByRecursion}
use denote.Hole.Holds.{Such}
use Rattle.plain_data.specs.ByName.{map_values}
use Rattle.cwl_process.specs.declared.tool.Tool.{Tool}
use Rattle.document_links.specs.declared.process.Process.{Process, roll-Process, ind-Process, map-Process, the_lemmas}
use Rattle.document_links.specs.declared.process.Process as process
use Rattle.document_links.specs.declared.process.Process.TheOpen.{Process-F, Workflow-F, Step-F}
use Rattle.document_links.specs.declared.process.Process.TheVariants.{rolls-Tool, rolls-Workflow}
use Rattle.document_links.specs.declared.process.Step.{Step, roll-Step, ind-Step, map-Step}
use Rattle.document_links.specs.declared.process.Workflow.{Workflow, roll-Workflow, map-Workflow}
use Rattle.job_graph.specs.Words.{Name}
use Rattle.input_files.specs.Measured.{Measures}
use Rattle.job_graph.specs.Jobs.{Made}
use Rattle.job_graph.specs.Equations.{Meaning, StepMeaning, StepOf, WorkflowOf, process_level, step_meaning, workflow_meaning, meaning_of, step_meaning_of, workflow_meaning_of}

abbrev pub StepLevel : Type 0
StepLevel = Step-F Process Step Workflow

abbrev pub WorkflowLevel : Type 0
WorkflowLevel = Workflow-F Process Step Workflow

-- P of processes, S of steps, W of workflows
pub record Cases (P : Process → Type 0) (S : Step → Type 0) (W : Workflow → Type 0) : Type 0 where
  pub tool : (tool : Tool) → P (process.Tool tool)
  pub workflow : (workflow : Workflow) → W workflow → P (process.Workflow workflow)
  pub a_step : (step : StepLevel) → P step.process → S (roll-Step step)
  pub a_workflow : (workflow : WorkflowLevel) → AllByRecursion (λ (e : Name × Step). S e.1) workflow.steps → W (roll-Workflow workflow)

abbrev processes : (P : Process → Type 0) (S : Step → Type 0) (W : Workflow → Type 0) → Type 0
processes P S W = Such process.TheBlock.the_family (process.TheFolds.claims P S W) process.TheBlock.member-Process

abbrev steps : (P : Process → Type 0) (S : Step → Type 0) (W : Workflow → Type 0) → Type 0
steps P S W = Such process.TheBlock.the_family (process.TheFolds.claims P S W) process.TheBlock.member-Step

abbrev workflows : (P : Process → Type 0) (S : Step → Type 0) (W : Workflow → Type 0) → Type 0
workflows P S W = Such process.TheBlock.the_family (process.TheFolds.claims P S W) process.TheBlock.member-Workflow

module _ {P : Process → Type 0} {S : Step → Type 0} {W : Workflow → Type 0} (cases : Cases P S W) where
  each_step : (ys : List (Name × steps P S W)) → AllByRecursion (λ (e : Name × Step). S e.1) (map_values (λ y. y.0) ys)
  each_step [] = tt
  each_step (y ∷ ys) = (y.1.1, each_step ys)

  abbrev bare_process : Process-F (processes P S W) (steps P S W) (workflows P S W) → Process-F Process Step Workflow
  bare_process = map-Process (processes P S W) (steps P S W) (workflows P S W) Process Step Workflow (λ e. e.0) (λ e. e.0) (λ e. e.0)

  abbrev bare_step : Step-F (processes P S W) (steps P S W) (workflows P S W) → StepLevel
  bare_step = map-Step (processes P S W) (steps P S W) (workflows P S W) Process Step Workflow (λ e. e.0) (λ e. e.0) (λ e. e.0)

  abbrev bare_workflow : Workflow-F (processes P S W) (steps P S W) (workflows P S W) → WorkflowLevel
  bare_workflow = map-Workflow (processes P S W) (steps P S W) (workflows P S W) Process Step Workflow (λ e. e.0) (λ e. e.0) (λ e. e.0)

  of_process : (y : Process-F (processes P S W) (steps P S W) (workflows P S W)) → P (roll-Process (bare_process y))
  of_process (Process-F.Tool tool) = subst P (sym (rolls-Tool tool)) (cases.tool tool)
  of_process (Process-F.Workflow y) = subst P (sym (rolls-Workflow y.0)) (cases.workflow y.0 y.1)

  of_step : (y : Step-F (processes P S W) (steps P S W) (workflows P S W)) → S (roll-Step (bare_step y))
  of_step y = cases.a_step (bare_step y) y.process.1

  of_workflow : (y : Workflow-F (processes P S W) (steps P S W) (workflows P S W)) → W (roll-Workflow (bare_workflow y))
  of_workflow y = cases.a_workflow (bare_workflow y) (each_step y.steps)

  pub induction : (p : Process) → P p
  induction p = ind-Process P S W (λ x y e. subst (λ x. P (roll-Process x)) e (of_process y)) (λ x y e. subst (λ x. S (roll-Step x)) e (of_step y)) (λ x y e. subst (λ x. W (roll-Workflow x)) e (of_workflow y)) p

  pub step_induction : (s : Step) → S s
  step_induction s = ind-Step P S W (λ x y e. subst (λ x. P (roll-Process x)) e (of_process y)) (λ x y e. subst (λ x. S (roll-Step x)) e (of_step y)) (λ x y e. subst (λ x. W (roll-Workflow x)) e (of_workflow y)) s

-- What each level means, where it is known of the level below

abbrev pub step_of : StepLevel → Meaning → StepOf
step_of step meaning = record {
  inputs = step.inputs;
  outputs = step.outputs;
  process = meaning;
  scatter = step.scatter;
  method = step.method;
  when = step.when;
}

abbrev pub workflow_of : WorkflowLevel → List (Name × StepMeaning) → WorkflowOf
workflow_of workflow steps = record { inputs = workflow.inputs; outputs = workflow.outputs; steps = steps }

module _ (measures : Measures) (made : Made) where
  abbrev pub meanings : List (Name × Step) → List (Name × StepMeaning)
  meanings steps = map_values (step_meaning_of measures made) steps

  pub tool_level : (tool : Tool) → meaning_of measures made (process.Tool tool) ≡ process_level measures made (Process-F.Tool tool)
  tool_level tool = search (rules, the_lemmas)

  pub workflow_in : (workflow : Workflow) → meaning_of measures made (process.Workflow workflow) ≡ process_level measures made (Process-F.Workflow (workflow_meaning_of measures made workflow))
  workflow_in workflow = search (rules, the_lemmas)

  pub step_level : (step : StepLevel) → step_meaning_of measures made (roll-Step step) ≡ step_meaning measures (step_of step (meaning_of measures made step.process))
  step_level step = search (rules, the_lemmas)

  pub workflow_level : (workflow : WorkflowLevel) → workflow_meaning_of measures made (roll-Workflow workflow) ≡ workflow_meaning measures (workflow_of workflow (meanings workflow.steps))
  workflow_level workflow = search (rules, the_lemmas)
