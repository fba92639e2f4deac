-- The links of steps and of a workflow's outputs (CWL v1.2, Workflow Description, "WorkflowStepInput", "WorkflowOutputParameter"): K1, K3 and K2.
use Rattle.std.specs.Prelude.{ℕ, List, [], ◌∷◌, length, map, Bool, false, Option, Some, None, if◌then◌else◌, is_some, not, ◌&&◌, ◌||◌, ◌==◌}
use Rattle.std.specs.List.{list_any}
use Rattle.plain_data.specs.ByName.{value_at}
use Rattle.cwl_types.specs.declared.types.MemberType.{MemberType}
use Rattle.cwl_process.specs.declared.links.Links.{Links}
use Rattle.cwl_process.specs.declared.links.Source.{Source}
use Rattle.cwl_process.specs.declared.workflow.StepInput.{StepInput}
use Rattle.cwl_process.specs.declared.workflow.WorkflowInput.{WorkflowInput}
use Rattle.cwl_process.specs.declared.workflow.WorkflowOutput.{WorkflowOutput}
use Rattle.type_check.specs.Overlaps.{overlaps}
use Rattle.document_links.specs.declared.process.Process.{Process}
use Rattle.document_links.specs.declared.process.Step.{Step, out-Step}
use Rattle.workflow_check.specs.declared.fault.LinkRule.TheVariants.{NoSource, Disjoint, Unconnected}
use Rattle.workflow_check.specs.Faults.{Found, first_of, found_if, inside, or_next}
use Rattle.workflow_check.specs.Scope.{Asked, Named, gift, has, is_there, lists, takes}
use Rattle.workflow_check.specs.Types.{form_of, is_null, link_type, sink_type}

-- what the sources of a workflow may name
pub record Around : Type 0 where
  pub inputs : Named WorkflowInput
  pub steps : Named Step

-- ---- K1

abbrev pub source_fault : Around → Source → Found
source_fault around source = found_if (not (is_there around.inputs around.steps source)) NoSource

abbrev pub each_source : Around → Option (List Source) → Found
each_source around None = None
each_source around (Some sources) = first_of (source_fault around) sources

abbrev pub sources_fault : Around → Links → Found
sources_fault around links = each_source around links.sources

-- ---- K3

abbrev pub has_to_be_given : Asked → Bool
has_to_be_given asked = not asked.has_default && not (list_any is_null asked.kind)

abbrev pub unlinked_fault : Asked → Found
unlinked_fault asked = found_if (has_to_be_given asked) Unconnected

-- ---- K2

-- Values of the links may be what is asked for.
abbrev pub may_carry : Around → Links → List Source → Bool → List MemberType → Bool
may_carry around links sources scattered kind =
    overlaps (link_type (form_of links.merge links.pick (length sources == 1)) (map (gift around.inputs around.steps) sources)) (sink_type scattered kind)

-- Where there is no link, nothing is compared.
abbrev pub type_fault : Around → Links → List Source → Bool → List MemberType → Found
type_fault around links [] scattered kind = None
type_fault around links (s ∷ ss) scattered kind = found_if (not (may_carry around links (s ∷ ss) scattered kind)) Disjoint

-- ---- entries of steps

abbrev pub linked_fault : Around → StepInput → Option (List Source) → Bool → Asked → Found
linked_fault around input None scattered asked = unlinked_fault asked
linked_fault around input (Some sources) scattered asked = type_fault around input.links sources scattered asked.kind

-- With a default or a valueFrom nothing more is looked at.
abbrev pub asked_fault : Around → StepInput → Bool → Asked → Found
asked_fault around input scattered asked =
    if is_some input.default || is_some input.value_from then None else linked_fault around input input.links.sources scattered asked

-- Of an entry that no input of the process takes only the sources are looked at.
abbrev pub taken_fault : Around → StepInput → Bool → Option Asked → Found
taken_fault around input scattered None = None
taken_fault around input scattered (Some asked) = asked_fault around input scattered asked

abbrev pub entry_fault : Around → StepInput → Bool → Option Asked → Found
entry_fault around input scattered asked = or_next (sources_fault around input.links) (taken_fault around input scattered asked)

-- an entry of that step
abbrev pub entry_in : Around → Step → List ℕ × StepInput → Found
entry_in around step e = inside e.0 (entry_fault around e.1 (lists (out-Step step).scatter e.0) (value_at e.0 (takes (out-Step step).process)))

abbrev pub entries_fault : Around → Step → Found
entries_fault around step = first_of (entry_in around step) (out-Step step).inputs

-- what the process takes and the step has no entry for
abbrev pub other_fault : Named StepInput → List ℕ × Asked → Found
other_fault entries e = if has e.0 entries then None else inside e.0 (unlinked_fault e.1)

abbrev pub others_fault : Process → Named StepInput → Found
others_fault process entries = first_of (other_fault entries) (takes process)

abbrev pub step_fault : Around → Step → Found
step_fault around step = or_next (entries_fault around step) (others_fault (out-Step step).process (out-Step step).inputs)

-- step by step
abbrev pub steps_fault : Around → Named Step → Found
steps_fault around steps = first_of (λ e. inside e.0 (step_fault around e.1)) steps

-- ---- outputs of the workflow

abbrev pub linked_output : Around → WorkflowOutput → Option (List Source) → Found
linked_output around output None = None
linked_output around output (Some sources) = type_fault around output.links sources false output.kind

abbrev pub output_fault : Around → WorkflowOutput → Found
output_fault around output = or_next (sources_fault around output.links) (linked_output around output output.links.sources)

abbrev pub outputs_fault : Around → Named WorkflowOutput → Found
outputs_fault around outputs = first_of (λ e. inside e.0 (output_fault around e.1)) outputs
