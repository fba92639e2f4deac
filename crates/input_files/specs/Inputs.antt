-- A job's inputs as they were measured, or the first fault in the order of the tool's inputs: a value that is not of the input's type, then
-- a File or Directory that is not there, then a required file that is not beside its File (CWL v1.2, Command Line Tool,
-- "CommandInputParameter": `default`, `type`, `secondaryFiles`; "File"; "Directory").
use Rattle.std.specs.Prelude.{not, ◌&&◌, if◌then◌else◌, List, [], ◌∷◌, Option, Some, None, Result, Ok, Err, map}
use Rattle.cwl_process.specs.declared.tool.SecondaryFile.{SecondaryFile}
use Rattle.cwl_value.specs.declared.value.Value.{Value}
use Rattle.value_depth.specs.Limit.{is_within_limit}
use Rattle.input_files.specs.Given.{Fields, NamedInput, input_value, fits_input, last_by_name}
use Rattle.input_files.specs.Measured.{Measures, is_there, as_measured}
use Rattle.input_files.specs.Beside.{lacks_required, all_beside}
use Rattle.input_files.specs.declared.fault.InputFault.{InputFault}
use Rattle.input_files.specs.declared.fault.InputFault.TheVariants as fault

-- a value as it was measured, with the files that were found beside its Files
abbrev pub with_measures : Measures → List SecondaryFile → Value → Value
with_measures measures declared v = all_beside measures declared (as_measured measures v)

-- what is wrong with an input of this value first; it is of no type where its JSON, as it was measured, nests over the limit
abbrev pub fault_in : Measures → NamedInput → Value → Option InputFault
fault_in measures input v =
    (if not (fits_input input.1.kind v && is_within_limit (with_measures measures input.1.secondary_files v)) then Some (fault.Kind input.0)
    else if not (is_there measures v) then Some (fault.Missing input.0)
    else if lacks_required measures input.1.secondary_files v then Some (fault.Secondary input.0)
    else None)

abbrev pub fault_of : Measures → Fields → NamedInput → Option InputFault
fault_of measures given input = fault_in measures input (input_value given input)

abbrev pub or_else : {X : Type 0} → Option X → Option X → Option X
or_else None other = other
or_else (Some x) other = Some x

abbrev pub first_fault : Measures → Fields → List NamedInput → Option InputFault
first_fault measures given [] = None
first_fault measures given (input ∷ more) = or_else (fault_of measures given input) (first_fault measures given more)

abbrev pub measured_value : Measures → Fields → NamedInput → Value
measured_value measures given input = with_measures measures input.1.secondary_files (input_value given input)

-- each input under its id
abbrev pub measured_inputs : Measures → List NamedInput → Fields → Fields
measured_inputs measures inputs given = last_by_name (map (λ input. (input.0, measured_value measures given input)) inputs)

abbrev pub unless_fault : Option InputFault → Fields → Result Fields InputFault
unless_fault None inputs = Ok inputs
unless_fault (Some found) inputs = Err found

-- the inputs of a job, or the first fault
abbrev pub inputs_for : List NamedInput → Fields → Measures → Result Fields InputFault
inputs_for inputs given measures = unless_fault (first_fault measures given inputs) (measured_inputs measures inputs given)
