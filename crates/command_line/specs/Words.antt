-- The words of a command (CWL v1.2, Command Line Tool Description, "Input binding", "CommandLineBinding").
use Rattle.std.specs.Prelude.{◌≡◌, ℕ, Bool, true, false, if◌then◌else◌, List, [], ◌++◌, Option, Some, None, Result, Ok, Err, IsOk, All}
use Rattle.std.specs.Result.{result_unwrap_or}
use Rattle.std.specs.List.{flat_map, list_all}
use Rattle.cwl_types.specs.declared.types.MemberType.{MemberType}
use Rattle.cwl_value.specs.declared.value.DirVal.{DirVal}
use Rattle.cwl_value.specs.declared.value.FileVal.{FileVal}
use Rattle.cwl_value.specs.declared.value.Value.{Value, out-Value}
use Rattle.cwl_value.specs.declared.value.Value.TheOpen.{Value-F}
use Rattle.param_refs.specs.declared.template.Part.{Part}
use Rattle.cwl_process.specs.declared.tool.Tool.{Tool}
use Rattle.command_line.specs.Added.{adds}
use Rattle.command_line.specs.Order.{AreInOrder, Bound, Origin, Argument, Input}
use Rattle.command_line.specs.Results.{and_then}
use Rattle.command_line.specs.Texts.{is_plain, value_in}
use Rattle.command_line.specs.declared.fault.BuildFault.{BuildFault}
use Rattle.command_line.specs.declared.fault.BuildFault.TheVariants.{NotText, NoValueFrom}
use Rattle.command_line.specs.declared.fault.LaunchText.{LaunchText}
use Rattle.command_line.specs.declared.fault.LaunchText.TheVariants as launch_text

abbrev pub place_of : Origin → LaunchText
place_of (Argument index) = launch_text.Argument index
place_of (Input id) = launch_text.Input id

abbrev pub is_null_at : Value-F Value DirVal FileVal → Bool
is_null_at Value-F.Null = true
is_null_at (Value-F.Bool flag) = false
is_null_at (Value-F.Whole number) = false
is_null_at (Value-F.Text text) = false
is_null_at (Value-F.FileVal file) = false
is_null_at (Value-F.DirVal dir) = false
is_null_at (Value-F.List items) = false
is_null_at (Value-F.Fields fields) = false

abbrev pub is_null : Value → Bool
is_null v = is_null_at (out-Value v)

-- the words, where an operating system takes each of them
abbrev pub plain_words : LaunchText → Option (List (List ℕ)) → Result (List (List ℕ)) BuildFault
plain_words place None = Err (NotText place)
plain_words place (Some words) = if list_all is_plain words then Ok words else Err (NotText place)

module _ (inputs : List (List ℕ × Value)) (around : Value) where
  -- The value whose words count. An argument needs a valueFrom, and that of an input counts where its value isn't null.
  abbrev pub value_for : Origin → Option (List Part) → Value → Result Value BuildFault
  value_for (Argument index) None v = Err NoValueFrom
  value_for (Argument index) (Some template) v = value_in inputs around v template
  value_for (Input id) None v = Ok v
  value_for (Input id) (Some template) v = if is_null v then Ok v else value_in inputs around v template

  -- the type of that value: a valueFrom gives a value of no type
  abbrev pub types_for : Option (List Part) → List MemberType → List MemberType
  types_for None types = types
  types_for (Some template) types = []

  -- the words of a binding, or why it has none
  abbrev pub words_of : Bound → Result (List (List ℕ)) BuildFault
  words_of b = and_then (value_for b.origin b.value_from b.value) (λ v. plain_words (place_of b.origin) (adds v (types_for b.value_from b.types) b.style))

  abbrev pub words_at : Bound → List (List ℕ)
  words_at b = result_unwrap_or (words_of b) []

-- the base command, and then the words of the tool's bindings in the order of their keys
pub record AreWords (tool : Tool) (inputs : List (List ℕ × Value)) (around : Value) (words : List (List ℕ)) : Type 0 where
  pub bound : List Bound
  pub in_order : AreInOrder tool inputs bound
  pub all_there : All (λ b. IsOk (words_of inputs around b)) bound
  pub are : words ≡ tool.base_command ++ flat_map (words_at inputs around) bound
