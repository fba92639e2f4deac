-- What is wrong first, level by level.
use Rattle.std.proofs.Common.{◌≡◌, ◌∙◌, [], ◌∷◌, map, ap, sym, refl}
use Rattle.std.specs.Prelude.{None}
use Rattle.cwl_process.specs.declared.tool.Tool.{Tool}
use Rattle.document_links.specs.declared.process.Process as process
use Rattle.document_links.specs.declared.process.Process.TheVariants.{rolls-Tool, rolls-Workflow}
use Rattle.document_links.specs.declared.process.Process.TheOpen.{Process-F}
use Rattle.document_links.specs.declared.process.Process.TheFolds.{para-Step, para-Workflow, para-roll-Process, para-roll-Step, para-roll-Workflow}
use Rattle.document_links.specs.declared.process.Process.TheViews.{roll-out-Step, roll-out-Workflow}
use Rattle.document_links.specs.declared.process.Step.{Step, out-Step}
use Rattle.document_links.specs.declared.process.Workflow.{Workflow, out-Workflow}
use Rattle.workflow_check.specs.Checked.{fault_in, fault_in_step, fault_in_workflow, inner_fault, own_fault, process_step, step_step, workflow_step}
use Rattle.workflow_check.specs.Faults.{Found, first_of, inside, or_next}
use Rattle.workflow_check.specs.Scope.{Named}

abbrev in_step : Step → Found
in_step = para-Step Found Found Found process_step step_step workflow_step

abbrev in_workflow : Workflow → Found
in_workflow = para-Workflow Found Found Found process_step step_step workflow_step

pub of_tool : (tool : Tool) → fault_in (process.Tool tool) ≡ None
of_tool tool = ap fault_in (sym (rolls-Tool tool)) ∙ para-roll-Process Found Found Found process_step step_step workflow_step (Process-F.Tool tool)

in_step_is : (s : Step) → in_step s ≡ fault_in (out-Step s).process
in_step_is s = ap in_step (sym (roll-out-Step s)) ∙ para-roll-Step Found Found Found process_step step_step workflow_step (out-Step s)

abbrev paired : Named Step → Named (Step × Found)
paired steps = map (λ e. (e.0, (e.1, in_step e.1))) steps

firsts : (steps : Named Step) → map (λ e. (e.0, e.1.0)) (paired steps) ≡ steps
firsts [] = refl
firsts (e ∷ es) = ap (λ rest. e ∷ rest) (firsts es)

inner : (steps : Named Step) → inner_fault (paired steps) ≡ first_of fault_in_step steps
inner [] = refl
inner (e ∷ es) = ap (λ found. or_next (inside e.0 found) (inner_fault (paired es))) (in_step_is e.1) ∙ ap (or_next (fault_in_step e)) (inner es)

in_workflow_is : (w : Workflow) → in_workflow w ≡ fault_in_workflow (out-Workflow w)
in_workflow_is w =
    ap in_workflow (sym (roll-out-Workflow w)) ∙ para-roll-Workflow Found Found Found process_step step_step workflow_step (out-Workflow w)
    ∙ ap (λ found. or_next found (own_fault (record (out-Workflow w) { steps = map (λ e. (e.0, e.1.0)) (paired (out-Workflow w).steps) }))) (inner (out-Workflow w).steps)
    ∙ ap (λ steps. or_next (first_of fault_in_step (out-Workflow w).steps) (own_fault (record (out-Workflow w) { steps = steps }))) (firsts (out-Workflow w).steps)

pub of_workflow : (w : Workflow) → fault_in (process.Workflow w) ≡ fault_in_workflow (out-Workflow w)
of_workflow w =
    ap fault_in (sym (rolls-Workflow w)) ∙ para-roll-Process Found Found Found process_step step_step workflow_step (Process-F.Workflow w) ∙ in_workflow_is w
