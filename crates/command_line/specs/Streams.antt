-- The files of a command's streams (CWL v1.2, Command Line Tool Description, "CommandLineTool": stdin, stdout, stderr).
use Rattle.std.specs.Prelude.{ℕ, Bool, true, false, not, ◌==◌, ◌&&◌, ◌||◌, if◌then◌else◌, List, [], Option, Some, None, Result, Ok, Err, codes, bytes_eq}
use Rattle.std.specs.List.{find, list_any}
use Rattle.cwl_value.specs.declared.value.DirVal.{DirVal}
use Rattle.cwl_value.specs.declared.value.FileVal.{FileVal, out-FileVal}
use Rattle.cwl_value.specs.declared.value.Value.{Value, out-Value}
use Rattle.cwl_value.specs.declared.value.Value.TheOpen.{Value-F}
use Rattle.param_refs.specs.declared.template.Part.{Part}
use Rattle.cwl_process.specs.declared.tool.InputType.{InputType}
use Rattle.cwl_process.specs.declared.tool.InputType.TheVariants as input_type
use Rattle.cwl_process.specs.declared.tool.OutputType.{OutputType}
use Rattle.cwl_process.specs.declared.tool.OutputType.TheVariants as output_type
use Rattle.cwl_process.specs.declared.tool.Tool.{Tool}
use Rattle.cwl_process.specs.declared.tool.ToolInput.{ToolInput}
use Rattle.command_line.specs.Added.{path_in}
use Rattle.command_line.specs.Order.{input_value}
use Rattle.command_line.specs.Results.{and_then}
use Rattle.command_line.specs.Texts.{is_plain, text_in}
use Rattle.command_line.specs.declared.fault.BuildFault.{BuildFault}
use Rattle.command_line.specs.declared.fault.BuildFault.TheVariants.{NotText}
use Rattle.command_line.specs.declared.fault.LaunchText.{LaunchText}
use Rattle.command_line.specs.declared.fault.LaunchText.TheVariants.{Stdin, Stdout, Stderr}

-- ---- what the command writes

abbrev pub is_stdout : OutputType → Bool
is_stdout output_type.Stdout = true
is_stdout output_type.Stderr = false
is_stdout (output_type.Members kinds) = false

abbrev pub is_stderr : OutputType → Bool
is_stderr output_type.Stdout = false
is_stderr output_type.Stderr = true
is_stderr (output_type.Members kinds) = false

abbrev pub collects : (OutputType → Bool) → Tool → Bool
collects is_it tool = list_any (λ output. is_it output.1.kind) tool.outputs

-- the name of a file right in the output folder: not empty, without `/`, and neither `.` nor `..`
abbrev pub is_file_name : List ℕ → Bool
is_file_name name =
    not (bytes_eq name [] || bytes_eq name (codes ".") || bytes_eq name (codes "..") || list_any (λ byte. byte == 47) name) && is_plain name

abbrev pub file_named : LaunchText → List ℕ → Result (Option (List ℕ)) BuildFault
file_named place name = if is_file_name name then Ok (Some name) else Err (NotText place)

-- a file for a stream that is collected and has no name
abbrev pub unnamed : Bool → List ℕ → Option (List ℕ)
unnamed true name = Some name
unnamed false name = None

-- ---- what it reads

abbrev pub is_stdin : InputType → Bool
is_stdin input_type.Stdin = true
is_stdin (input_type.Members members) = false

abbrev pub file_path_at : Value-F Value DirVal FileVal → Option (List ℕ)
file_path_at Value-F.Null = None
file_path_at (Value-F.Bool flag) = None
file_path_at (Value-F.Whole number) = None
file_path_at (Value-F.Text text) = None
file_path_at (Value-F.FileVal file) = path_in (out-FileVal file).place
file_path_at (Value-F.DirVal dir) = None
file_path_at (Value-F.List items) = None
file_path_at (Value-F.Fields fields) = None

-- the path of a File
abbrev pub file_path : Value → Option (List ℕ)
file_path v = file_path_at (out-Value v)

abbrev pub some_plain : LaunchText → Option (List ℕ) → Result (Option (List ℕ)) BuildFault
some_plain place None = Err (NotText place)
some_plain place (Some text) = if is_plain text then Ok (Some text) else Err (NotText place)

module _ (inputs : List (List ℕ × Value)) (around : Value) where
  -- A stream goes to the file that the tool names, or where an output collects it, to one of our choice, and else nowhere.
  abbrev pub output_file : LaunchText → Option (List Part) → Option (List ℕ) → Result (Option (List ℕ)) BuildFault
  output_file place (Some name) file = and_then (text_in inputs around place name) (file_named place)
  output_file place None file = Ok file

  abbrev pub stdout_of : Tool → Result (Option (List ℕ)) BuildFault
  stdout_of tool = output_file Stdout tool.streams.stdout (unnamed (collects is_stdout tool) (codes "cwl.stdout"))

  abbrev pub stderr_of : Tool → Result (Option (List ℕ)) BuildFault
  stderr_of tool = output_file Stderr tool.streams.stderr (unnamed (collects is_stderr tool) (codes "cwl.stderr"))

  -- the file of the input of type `stdin`
  abbrev pub file_of_input : Option (List ℕ × ToolInput) → Result (Option (List ℕ)) BuildFault
  file_of_input None = Ok None
  file_of_input (Some e) = some_plain Stdin (file_path (input_value inputs e.0))

  abbrev pub input_file : Option (List Part) → List (List ℕ × ToolInput) → Result (Option (List ℕ)) BuildFault
  input_file (Some path) entries = and_then (text_in inputs around Stdin path) (λ text. some_plain Stdin (Some text))
  input_file None entries = file_of_input (find (λ e. is_stdin e.1.kind) entries)

  -- the file that the tool names, or that of an input of type `stdin`; with neither, an empty input
  abbrev pub stdin_of : Tool → Result (Option (List ℕ)) BuildFault
  stdin_of tool = input_file tool.streams.stdin tool.inputs
