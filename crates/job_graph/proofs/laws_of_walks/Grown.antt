-- Where more is known of the outputs of jobs that are met, no less is met and given.
use Rattle.std.proofs.Common.{List, [], ◌∷◌, Result, Ok, Err, sym, subst₂}
use Rattle.std.specs.List.{AllByRecursion}
use Rattle.input_files.specs.Measured.{Measures}
use Rattle.link_values.specs.StepInputs.{value_under}
use Rattle.cwl_process.specs.declared.tool.Tool.{Tool}
use Rattle.document_links.specs.declared.process.Process.{Process}
use Rattle.document_links.specs.declared.process.Step.{Step}
use Rattle.document_links.specs.declared.process.Workflow.{Workflow}
use Rattle.job_graph.specs.declared.cause.Cause.{Cause}
use Rattle.job_graph.specs.Words.{Name, Fields, JobPlace}
use Rattle.job_graph.specs.Inputs.{tool_inputs_for, workflow_inputs_for}
use Rattle.job_graph.specs.Jobs.{Job, Met, met_job, met_fault, Made, failed, tool_walk, output_names}
use Rattle.job_graph.specs.Equations.{meaning_of, step_meaning_of, workflow_meaning_of}
use Rattle.job_graph.specs.More.{Stays, IsGrown}
use Rattle.job_graph.proofs.laws_of_walks.Processes.{Cases, induction, step_induction, tool_level, workflow_in, step_level, workflow_level}
use Rattle.job_graph.proofs.laws_of_walks.Part.{AllIn, part_itself, stays_itself, stays_map, stays_under, grown_itself}
use Rattle.job_graph.proofs.laws_of_walks.Steps.{Goes, StepGoes, step_goes}
use Rattle.job_graph.proofs.laws_of_walks.Rounds.{StepRises, at_goes}

module _ (measures : Measures) (made more : Made) (G : Job → Type 0) (stays : (job : Job) → G job → Stays (made job) (more job)) where
  tool_goes : (tool : Tool) (place : JobPlace) (found : Result Fields Cause) → AllIn G (tool_walk tool place found made).met
      → IsGrown (tool_walk tool place found made) (tool_walk tool place found more)
  tool_goes tool place (Err cause) all = grown_itself (failed place cause (output_names tool))
  tool_goes tool place (Ok inputs) all =
      let job : Job = record { place = place; tool = tool; inputs = inputs } in
      record {
        met = part_itself (met_job job ∷ []);
        outs = λ name. stays_under (λ n. n) _ _ (λ n. stays_map (value_under n) (made job) (more job) (stays job all.0)) name (output_names tool);
      }

  abbrev ProcessGoes : Process → Type 0
  ProcessGoes p = Goes G (meaning_of measures made p) (meaning_of measures more p)

  abbrev TheStepGoes : Step → Type 0
  TheStepGoes s = StepGoes G (step_meaning_of measures made s) (step_meaning_of measures more s)

  abbrev WorkflowGoes : Workflow → Type 0
  WorkflowGoes w = Goes G (workflow_meaning_of measures made w) (workflow_meaning_of measures more w)

  -- where each step gives no less when more is known of the others
  module _ (rises : (s : Step) → TheStepGoes s → StepRises (step_meaning_of measures made s)) where
    all_rise : (steps : List (Name × Step)) → AllByRecursion (λ (e : Name × Step). TheStepGoes e.1) steps → AllByRecursion (λ (e : Name × Step). StepRises (step_meaning_of measures made e.1)) steps
    all_rise [] go = tt
    all_rise (e ∷ es) go = (rises e.1 go.0, all_rise es go.1)

    goes_cases : Cases ProcessGoes TheStepGoes WorkflowGoes
    goes_cases = record {
      tool = λ tool. subst₂ (Goes G) (sym (tool_level measures made tool)) (sym (tool_level measures more tool)) (λ place fields. tool_goes tool place (tool_inputs_for measures tool.inputs fields));
      workflow = λ w go. subst₂ (Goes G) (sym (workflow_in measures made w)) (sym (workflow_in measures more w)) go;
      a_step = λ step go. subst₂ (StepGoes G) (sym (step_level measures made step)) (sym (step_level measures more step)) (step_goes G step (meaning_of measures made step.process) (meaning_of measures more step.process) go measures);
      a_workflow = λ w go. subst₂ (Goes G) (sym (workflow_level measures made w)) (sym (workflow_level measures more w))
          (λ place fields. at_goes G (step_meaning_of measures made) (step_meaning_of measures more) w (all_rise w.steps go) go place (workflow_inputs_for measures w.inputs fields));
    }

    process_goes : (p : Process) → ProcessGoes p
    process_goes p = induction goes_cases p

    every_step_goes : (s : Step) → TheStepGoes s
    every_step_goes s = step_induction goes_cases s

-- ---- with the same outputs of jobs

abbrev any_job : Job → Type 0
any_job job = Unit {0}

all_any : (met : List Met) → AllIn any_job met
all_any [] = tt
all_any (met_job job ∷ met) = (tt, all_any met)
all_any (met_fault place cause ∷ met) = (tt, all_any met)

pub step_rises : (measures : Measures) (made : Made) (s : Step) → StepRises (step_meaning_of measures made s)
step_rises measures made s = λ id place inputs env later grows.
    every_step_goes measures made made any_job (λ job any. stays_itself (made job))
    (λ s go id place inputs env later grows. go id place inputs env later grows (all_any (step_meaning_of measures made s id place inputs env).met))
    s id place inputs env later grows (all_any (step_meaning_of measures made s id place inputs env).met)

pub steps_rise : (measures : Measures) (made : Made) (steps : List (Name × Step)) → AllByRecursion (λ (e : Name × Step). StepRises (step_meaning_of measures made e.1)) steps
steps_rise measures made [] = tt
steps_rise measures made (e ∷ es) = (step_rises measures made e.1, steps_rise measures made es)

-- ---- with more

pub goes : (measures : Measures) (made more : Made) (G : Job → Type 0) → ((job : Job) → G job → Stays (made job) (more job)) → (p : Process) → Goes G (meaning_of measures made p) (meaning_of measures more p)
goes measures made more G stays p = process_goes measures made more G stays (λ s go. step_rises measures made s) p
