-- Texts of a launch: which an operating system takes, and the text that a template gives (CWL v1.2, Command Line Tool Description,
-- "Parameter references").
use Rattle.std.specs.Prelude.{ℕ, Bool, true, false, not, ◌==◌, if◌then◌else◌, pos, List, [], ◌∷◌, Option, Some, None, Result, Ok, Err, codes}
use Rattle.std.specs.Option.{ok_or}
use Rattle.std.specs.List.{list_any}
use Rattle.std.specs.Fmt.{signed_decimal}
use Rattle.cwl_value.specs.declared.value.DirVal.{DirVal}
use Rattle.cwl_value.specs.declared.value.FileVal.{FileVal}
use Rattle.cwl_value.specs.declared.value.Value.{Value, out-Value}
use Rattle.cwl_value.specs.declared.value.Value as value
use Rattle.cwl_value.specs.declared.value.Value.TheOpen.{Value-F}
use Rattle.param_refs.specs.Descent.{Gives}
use Rattle.param_refs.specs.Evaluation.{template_value}
use Rattle.param_refs.specs.declared.template.Part.{Part}
use Rattle.command_line.specs.declared.fault.BuildFault.{BuildFault}
use Rattle.command_line.specs.declared.fault.BuildFault.TheVariants.{Reference, NotText}
use Rattle.command_line.specs.declared.fault.LaunchText.{LaunchText}
use Rattle.command_line.specs.declared.runtime.Runtime.{Runtime}
use Rattle.command_line.specs.Results.{and_then}

-- An operating system takes texts without the zero character.
abbrev pub is_plain : List ℕ → Bool
is_plain text = not (list_any (λ byte. byte == 0) text)

abbrev pub if_plain : LaunchText → List ℕ → Result (List ℕ) BuildFault
if_plain place text = if is_plain text then Ok text else Err (NotText place)

-- What references see as `runtime`.
abbrev pub runtime_value : Runtime → Value
runtime_value runtime =
    value.Fields ((codes "cores", value.Whole (pos 1)) ∷ (codes "outdir", value.Text runtime.outdir) ∷ (codes "tmpdir", value.Text runtime.tmpdir) ∷ [])

abbrev pub name_at : Value-F Value DirVal FileVal → Option (List ℕ)
name_at Value-F.Null = None
name_at (Value-F.Bool true) = Some (codes "true")
name_at (Value-F.Bool false) = Some (codes "false")
name_at (Value-F.Whole number) = Some (signed_decimal number)
name_at (Value-F.Text text) = Some text
name_at (Value-F.FileVal file) = None
name_at (Value-F.DirVal dir) = None
name_at (Value-F.List items) = None
name_at (Value-F.Fields fields) = None

-- the text of a stream's name or of a variable: a text, a number or a boolean
abbrev pub name_of : Value → Option (List ℕ)
name_of v = name_at (out-Value v)

-- the value of references, or B1
abbrev pub referred : {T : Type 0} → Gives T → Result T BuildFault
referred (Ok v) = Ok v
referred (Err fault) = Err (Reference fault)

module _ (inputs : List (List ℕ × Value)) (around : Value) where
  -- the value of a template, where `runtime` stands for `around` and `self` for its own value
  abbrev pub value_in : Value → List Part → Result Value BuildFault
  value_in own template = referred (template_value inputs (Some around) own template)

  -- the text that a template gives at a place of the launch
  abbrev pub text_in : LaunchText → List Part → Result (List ℕ) BuildFault
  text_in place template = and_then (value_in value.Null template) (λ v. ok_or (name_of v) (NotText place))
