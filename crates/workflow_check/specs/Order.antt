-- Steps that wait for one another (CWL v1.2, Workflow Description, "Workflow": no step may lead back to itself): K4.
use Rattle.std.specs.Prelude.{ℕ, zero, suc, List, [], ◌∷◌, length, Bool, true, false, Option, Some, None}
use Rattle.std.specs.List.{filter, list_any}
use Rattle.std.specs.Str.{bytes_eq}
use Rattle.cwl_process.specs.declared.links.Source.{Source}
use Rattle.cwl_process.specs.declared.workflow.StepInput.{StepInput}
use Rattle.document_links.specs.declared.process.Step.{Step, out-Step}
use Rattle.workflow_check.specs.declared.fault.LinkRule.TheVariants.{Cycle}
use Rattle.workflow_check.specs.Faults.{Found, found_if}
use Rattle.workflow_check.specs.Scope.{Named}

-- one of the steps has that id
abbrev pub is_of : Named Step → List ℕ → Bool
is_of steps id = list_any (λ e. bytes_eq e.0 id) steps

abbrev pub leads_to : Named Step → Option (List ℕ) → Bool
leads_to steps None = false
leads_to steps (Some id) = is_of steps id

abbrev pub some_lead : Named Step → Option (List Source) → Bool
some_lead steps None = false
some_lead steps (Some sources) = list_any (λ source. leads_to steps source.step) sources

-- a source of the step leads to one of these steps
abbrev pub waits_on : Named Step → Named StepInput → Bool
waits_on steps inputs = list_any (λ input. some_lead steps input.1.links.sources) inputs

abbrev pub waits_for : Named Step → List ℕ × Step → Bool
waits_for steps e = waits_on steps (out-Step e.1).inputs

-- those that wait for one of these
abbrev pub still_waiting : Named Step → Named Step
still_waiting steps = filter (waits_for steps) steps

-- those that are left after so many rounds, in each of which all go that wait for none that is left
abbrev pub left_after : ℕ → Named Step → Named Step
left_after zero steps = steps
left_after (suc n) steps = left_after n (still_waiting steps)

abbrev pub is_some_left : Named Step → Bool
is_some_left [] = false
is_some_left (e ∷ es) = true

-- After as many rounds as there are steps some are left, which wait for one another.
abbrev pub is_cyclic : Named Step → Bool
is_cyclic steps = is_some_left (left_after (length steps) steps)

abbrev pub order_fault : Named Step → Found
order_fault steps = found_if (is_cyclic steps) Cycle
