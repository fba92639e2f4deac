-- What a process takes of the values that are handed to it: for each input the value under its id, or its own default in place of null;
-- or the first fault in the order of its inputs (CWL v1.2, Command Line Tool, "CommandInputParameter", and Workflow,
-- "WorkflowInputParameter": `default`, `type`, `secondaryFiles`).
use Rattle.std.specs.Prelude.{not, ◌&&◌, if◌then◌else◌, List, [], ◌∷◌, Option, Some, None, Result, Ok, Err, map, option_map}
use Rattle.cwl_process.specs.declared.tool.ToolInput.{ToolInput}
use Rattle.cwl_process.specs.declared.workflow.WorkflowInput.{WorkflowInput}
use Rattle.cwl_value.specs.declared.value.Value.{Value}
use Rattle.value_depth.specs.Limit.{is_within_limit}
use Rattle.input_files.specs.Given.{Name, Fields, last_by_name, or_default, value_under}
use Rattle.input_files.specs.Present.{is_present}
use Rattle.input_files.specs.Measured.{Measures, as_measured}
use Rattle.input_files.specs.Carried.{lacks_carried}
use Rattle.input_files.specs.Inputs.{or_else, unless_fault, with_measures}
use Rattle.input_files.specs.Parameters.{Parameter, tool_parameter, workflow_parameter}
use Rattle.input_files.specs.declared.fault.InputFault.{InputFault}
use Rattle.input_files.specs.declared.fault.InputFault.TheVariants as fault

-- for the inputs of one kind of process, seen as parameters
module _ {X : Type 0} (of : X → Parameter) where
  -- the value of an input of the root, or its default in place of null, as measured, with the files that were found beside its Files
  abbrev pub root_value : Measures → Fields → Name × X → Value
  root_value measures given input =
      with_measures measures (of input.1).secondary_files (or_default (of input.1).default (value_under input.0 given))

  -- what is handed to the root, under the inputs' ids
  abbrev pub root_fields : List (Name × X) → Fields → Measures → Fields
  root_fields inputs given measures = last_by_name (map (λ input. (input.0, root_value measures given input)) inputs)

  -- the value of an input: what is handed to it, or its default as measured in place of null
  abbrev pub taken_value : Measures → Fields → Name × X → Value
  taken_value measures fields input = or_default (option_map (as_measured measures) (of input.1).default) (value_under input.0 fields)

  -- what is wrong with an input of this value first; a value is of no type where its JSON nests over the limit
  abbrev pub fault_with : Name × X → Value → Option InputFault
  fault_with input v =
      (if not ((of input.1).takes v && is_within_limit v) then Some (fault.Kind input.0)
      else if (of input.1).uses_files && not (is_present v) then Some (fault.Missing input.0)
      else if lacks_carried (of input.1).secondary_files v then Some (fault.Secondary input.0)
      else None)

  abbrev pub taken_fault : Measures → Fields → List (Name × X) → Option InputFault
  taken_fault measures fields [] = None
  taken_fault measures fields (input ∷ more) =
      or_else (fault_with input (taken_value measures fields input)) (taken_fault measures fields more)

  abbrev pub taken_values : Measures → List (Name × X) → Fields → Fields
  taken_values measures inputs fields = last_by_name (map (λ input. (input.0, taken_value measures fields input)) inputs)

  -- each input under its id, or the first fault
  abbrev pub process_inputs : List (Name × X) → Fields → Measures → Result Fields InputFault
  process_inputs inputs fields measures = unless_fault (taken_fault measures fields inputs) (taken_values measures inputs fields)

abbrev pub tool_root_fields : List (Name × ToolInput) → Fields → Measures → Fields
tool_root_fields = root_fields tool_parameter

abbrev pub workflow_root_fields : List (Name × WorkflowInput) → Fields → Measures → Fields
workflow_root_fields = root_fields workflow_parameter

abbrev pub tool_inputs : List (Name × ToolInput) → Fields → Measures → Result Fields InputFault
tool_inputs = process_inputs tool_parameter

abbrev pub workflow_inputs : List (Name × WorkflowInput) → Fields → Measures → Result Fields InputFault
workflow_inputs = process_inputs workflow_parameter
