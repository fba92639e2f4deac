-- The values of a step's inputs (CWL v1.2, Workflow, "WorkflowStepInput": `default`, `valueFrom`; "WorkflowStep": `when`).
use Rattle.std.specs.Prelude.{ℕ, Bool, ◌&&◌, if◌then◌else◌, List, [], ◌∷◌, Option, Some, None, is_some, unwrap_or, Result, Ok, Err}
use Rattle.plain_data.specs.ByName.{value_at, with_value}
use Rattle.cwl_value.specs.declared.value.DirVal.{DirVal}
use Rattle.cwl_value.specs.declared.value.FileVal.{FileVal}
use Rattle.cwl_value.specs.declared.value.Value.{Value, out-Value, roll-Value}
use Rattle.cwl_value.specs.declared.value.Value.TheOpen.{Value-F}
use Rattle.cwl_process.specs.declared.workflow.StepInput.{StepInput}
use Rattle.param_refs.specs.declared.fault.RefFault.{RefFault}
use Rattle.param_refs.specs.declared.template.Part.{Part}
use Rattle.param_refs.specs.Evaluation.{template_value}
use Rattle.link_values.specs.declared.fault.LinkFault.TheVariants.{NotABoolean, Reference}
use Rattle.link_values.specs.Picked.{is_something, picked}
use Rattle.link_values.specs.Refused.{Gives, and_then, and_map}

-- named values
abbrev pub Fields : Type 0
Fields = List (List ℕ × Value)

-- an input of a step, under its id
abbrev pub NamedInput : Type 0
NamedInput = List ℕ × StepInput

abbrev pub null : Value
null = roll-Value Value-F.Null

-- the value under a name; null where there is none
abbrev pub value_under : List ℕ → Fields → Value
value_under name fields = unwrap_or (value_at name fields) null

-- whether the document names a source of the input
abbrev pub has_source : StepInput → Bool
has_source input = is_some input.links.sources

-- ---- pick, then default: the default, if there is one, stands in where the input has no source, and for null

abbrev pub or_default : StepInput → Value → Value
or_default input value = if has_source input && is_something value then value else unwrap_or input.default value

abbrev pub step_input : StepInput → Value → Gives Value
step_input input linked = and_map (or_default input) (picked input.links.pick linked)

-- ---- valueFrom, which sees the values of all inputs; `self` is the input's own, and null where it has no source

abbrev pub own_value : NamedInput → Fields → Value
own_value input fields = if has_source input.1 then value_under input.0 fields else null

-- a reference's fault is L4
abbrev pub by_reference : {T : Type 0} → Result T RefFault → Gives T
by_reference (Ok x) = Ok x
by_reference (Err fault) = Err (Reference fault)

abbrev pub from_template : Option (List Part) → NamedInput → Fields → Gives Value
from_template None input fields = Ok (value_under input.0 fields)
from_template (Some parts) input fields = by_reference (template_value fields None (own_value input fields) parts)

abbrev pub value_from : Fields → NamedInput → Gives Value
value_from fields input = from_template input.1.value_from input fields

-- these inputs, one after another, put to those that are there; the first fault where there is one
abbrev pub values_put : Fields → List NamedInput → Fields → Gives Fields
values_put fields [] there = Ok there
values_put fields (input ∷ inputs) there =
    and_then (value_from fields input) (λ value. values_put fields inputs (with_value input.0 value there))

-- each input after its valueFrom
abbrev pub value_froms : List NamedInput → Fields → Gives Fields
value_froms inputs fields = values_put fields inputs []

-- ---- when, where `self` is null

abbrev pub form_truth : Value-F Value DirVal FileVal → Gives Bool
form_truth (Value-F.Bool flag) = Ok flag
form_truth _ = Err NotABoolean

-- a boolean; anything else is L3
abbrev pub truth_of : Value → Gives Bool
truth_of value = form_truth (out-Value value)

abbrev pub when_value : List Part → Fields → Gives Bool
when_value parts fields = and_then (by_reference (template_value fields None null parts)) truth_of
