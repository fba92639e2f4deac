-- The environment of a command (CWL v1.2, Command Line Tool Description, "Runtime environment", "EnvVarRequirement").
use Rattle.std.specs.Prelude.{ℕ, Bool, not, ◌==◌, ◌&&◌, if◌then◌else◌, List, [], ◌∷◌, ◌++◌, Result, Ok, Err, codes, length, unwrap_or}
use Rattle.std.specs.List.{list_any}
use Rattle.std.specs.Str.{bytes_eq}
use Rattle.cwl_value.specs.declared.value.Value.{Value}
use Rattle.cwl_process.specs.Acting.{environment_of as asked_for}
use Rattle.cwl_process.specs.declared.tool.Tool.{Tool}
use Rattle.cwl_process.specs.declared.tool.Variable as process_variable
use Rattle.command_line.specs.Results.{all_given, and_then}
use Rattle.command_line.specs.Texts.{is_plain, text_in}
use Rattle.command_line.specs.declared.fault.BuildFault.{BuildFault}
use Rattle.command_line.specs.declared.fault.BuildFault.TheVariants.{NotText}
use Rattle.command_line.specs.declared.fault.LaunchText.TheVariants.{EnvVariable}
use Rattle.command_line.specs.declared.launch.Variable.{Variable}
use Rattle.command_line.specs.declared.runtime.Runtime.{Runtime}

-- the name of a variable: not empty, without `=`
abbrev pub is_variable_name : List ℕ → Bool
is_variable_name name = not (length name == 0) && not (list_any (λ byte. byte == 61) name) && is_plain name

abbrev pub variable : List ℕ → List ℕ → Result Variable BuildFault
variable name text = if is_variable_name name && is_plain text then Ok (record { name = name; text = text }) else Err (NotText (EnvVariable name))

-- what each command finds
abbrev pub given_variables : Runtime → List Variable
given_variables runtime =
    record { name = codes "HOME"; text = runtime.outdir } ∷ record { name = codes "TMPDIR"; text = runtime.tmpdir } ∷ record { name = codes "PATH"; text = runtime.path_env } ∷ []

-- what the tool asks for
abbrev pub asked_variables : Tool → List (List ℕ × process_variable.Variable)
asked_variables tool = unwrap_or (asked_for tool.asked) []

abbrev pub is_asked : List (List ℕ × process_variable.Variable) → List ℕ → Bool
is_asked asked name = list_any (λ e. bytes_eq e.0 name) asked

-- a given variable, unless the tool asks for one of its name
abbrev pub given_variable : List (List ℕ × process_variable.Variable) → Variable → Result (List Variable) BuildFault
given_variable asked v = if is_asked asked v.name then Ok [] else and_then (variable v.name v.text) (λ w. Ok (w ∷ []))

module _ (inputs : List (List ℕ × Value)) (around : Value) where
  abbrev pub asked_variable : List ℕ × process_variable.Variable → Result (List Variable) BuildFault
  asked_variable e = and_then (text_in inputs around (EnvVariable e.0) e.1.value) (λ text. and_then (variable e.0 text) (λ w. Ok (w ∷ [])))

  -- What the tool asks for wins.
  abbrev pub environment_of : Runtime → Tool → Result (List Variable) BuildFault
  environment_of runtime tool =
      let asked = asked_variables tool in
      and_then (all_given (given_variable asked) (given_variables runtime)) (λ given. and_then (all_given asked_variable asked) (λ own. Ok (given ++ own)))
