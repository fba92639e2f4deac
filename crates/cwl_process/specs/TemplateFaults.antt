-- The texts with references that are wrong: the first of a tool, of a step and of what is asked (CWL v1.2, Command Line Tool Description,
-- "Parameter references"; Workflow Description, "WorkflowStep", "WorkflowStepInput").
use Rattle.std.specs.Prelude.{ℕ, List, Option, is_some, option_and_then, if◌then◌else◌, codes}
use Rattle.serde_json.specs.Data.{Data}
use Rattle.serde_json.specs.Find.{as_str}
use Rattle.document_table.specs.Walk.{or_else}
use Rattle.document_table.specs.declared.fault.DocumentFault.{DocumentFault}
use Rattle.document_table.specs.declared.form.Kind.TheVariants as kind
use Rattle.cwl_process.specs.Acting.{requirement_at}
use Rattle.cwl_process.specs.FirstFaults.{at_field, field_fault, first_at, first_of_list}
use Rattle.cwl_process.specs.Templates.{text_fault}

-- ---- what has references

-- a text at a field, or in place of the object
abbrev pub main_text_fault : List ℕ → Data → Option DocumentFault
main_text_fault name d = if is_some (as_str d) then text_fault d else field_fault text_fault name d

abbrev pub binding_fault : Data → Option DocumentFault
binding_fault d = main_text_fault (codes "valueFrom") d

abbrev pub variable_fault : Data → Option DocumentFault
variable_fault d = main_text_fault (codes "envValue") d

abbrev pub environment_fault : Data → Option DocumentFault
environment_fault d = at_field (codes "EnvVarRequirement") (first_at kind.Variable variable_fault (codes "envDef") d)

-- what acts of the requirements in a field
abbrev pub acting_fault : List ℕ → Data → Option DocumentFault
acting_fault field d = at_field field (option_and_then environment_fault (requirement_at field (codes "EnvVarRequirement") d))

abbrev pub asked_fault : Data → Option DocumentFault
asked_fault d = or_else (acting_fault (codes "requirements") d) (acting_fault (codes "hints") d)

-- ---- tools

abbrev pub input_text_fault : Data → Option DocumentFault
input_text_fault d = field_fault binding_fault (codes "inputBinding") d

abbrev pub output_binding_fault : Data → Option DocumentFault
output_binding_fault d = or_else (field_fault (first_of_list text_fault) (codes "glob") d) (field_fault text_fault (codes "outputEval") d)

abbrev pub output_text_fault : Data → Option DocumentFault
output_text_fault d = field_fault output_binding_fault (codes "outputBinding") d

abbrev pub streams_fault : Data → Option DocumentFault
streams_fault d =
    or_else (field_fault text_fault (codes "stdin") d)
    (or_else (field_fault text_fault (codes "stdout") d) (field_fault text_fault (codes "stderr") d))

abbrev pub tool_text_fault : Data → Option DocumentFault
tool_text_fault d =
    or_else (field_fault (first_of_list binding_fault) (codes "arguments") d)
    (or_else (first_at kind.ToolInput input_text_fault (codes "inputs") d)
    (or_else (first_at kind.ToolOutput output_text_fault (codes "outputs") d)
    (or_else (streams_fault d) (asked_fault d))))

-- ---- steps

abbrev pub step_input_text_fault : Data → Option DocumentFault
step_input_text_fault d = field_fault text_fault (codes "valueFrom") d

abbrev pub step_text_fault : Data → Option DocumentFault
step_text_fault d =
    or_else (first_at kind.StepInput step_input_text_fault (codes "in") d)
    (or_else (field_fault text_fault (codes "when") d) (asked_fault d))
