-- What the members of an object have to be, by the form that is asked of it (Schema Salad v1.2, "Identifier
-- maps"; CWL v1.2, Command Line Tool Description, "Requirements and hints").
use Rattle.std.specs.Prelude.{ℕ, ◌&&◌, ◌||◌, List, [], ◌∷◌, Bool, true, not, Option, Some, None, is_none, option_and_then, Result, Ok, Err, if◌then◌else◌, codes}
use Rattle.std.specs.Option.{option_map_or}
use Rattle.std.specs.Str.{bytes_eq}
use Rattle.serde_json.specs.Data.{Data}
use Rattle.serde_json.specs.Find.{get, as_str}
use Rattle.document_table.specs.Table.{Row, form_of, rows_of}
use Rattle.document_table.specs.Texts.{has_byte, is_id, is_one_of, is_step_id, plain_id}
use Rattle.document_table.specs.declared.fault.Cause.{Cause}
use Rattle.document_table.specs.declared.fault.Cause.TheVariants as cause
use Rattle.document_table.specs.declared.form.Form.{Form}
use Rattle.document_table.specs.declared.form.Form.TheVariants as form
use Rattle.document_table.specs.declared.form.Kind.{Kind}
use Rattle.document_table.specs.declared.form.Kind.TheVariants as kind
use Rattle.document_table.specs.declared.layout.Layout.{Layout}
use Rattle.document_table.specs.declared.layout.Layout.TheVariants as layout

-- ---- classes

abbrev pub process_kind : List ℕ → Option Kind
process_kind class = if bytes_eq class (codes "CommandLineTool") then Some kind.Tool else (if bytes_eq class (codes "Workflow") then Some kind.Workflow else None)

-- the requirements that change what a job does
abbrev pub acting_requirement : List ℕ → Option Kind
acting_requirement class =
    if bytes_eq class (codes "EnvVarRequirement") then Some kind.EnvVarRequirement else (if bytes_eq class (codes "WorkReuse") then Some kind.WorkReuse else None)

-- the requirements that are met by what the runner is
abbrev pub plain_requirements : List (List ℕ)
plain_requirements =
    codes "InlineJavascriptRequirement" ∷ codes "ScatterFeatureRequirement" ∷ codes "SubworkflowFeatureRequirement"
    ∷ codes "MultipleInputFeatureRequirement" ∷ codes "StepInputExpressionRequirement" ∷ []

abbrev pub known_requirement : List ℕ → Option Kind
known_requirement class = if is_one_of plain_requirements class then Some kind.PlainRequirement else acting_requirement class

-- ---- objects

-- an object whose class decides: what it has to be, where the class is none of those, and where there is none
abbrev pub by_class : (List ℕ → Option Kind) → Layout → Layout → Option Data → Layout
by_class kinds other no_text None = layout.Unclassed
by_class kinds other no_text (Some class) = option_map_or (λ name. option_map_or layout.Fields (kinds name) other) (as_str class) no_text

abbrev pub process_layout : Data → Layout
process_layout d = by_class process_kind (layout.Refused cause.WrongClass) (layout.Refused cause.WrongClass) (get (codes "class") d)

abbrev pub requirement_layout : Data → Layout
requirement_layout d = by_class known_requirement (layout.Refused cause.UnknownRequirement) (layout.Refused cause.WrongForm) (get (codes "class") d)

-- A hint that changes nothing is ignored.
abbrev pub hint_layout : Data → Layout
hint_layout d = by_class acting_requirement layout.Free (layout.Refused cause.WrongForm) (get (codes "class") d)

-- A document says its version; a process inside another one need not.
abbrev pub document_layout : Data → Layout
document_layout d = if is_none (get (codes "cwlVersion") d) then layout.Unversioned else process_layout d

-- the types that are objects
abbrev pub type_kind : List ℕ → Option Kind
type_kind name = if bytes_eq name (codes "array") then Some kind.ArrayType else (if bytes_eq name (codes "enum") then Some kind.EnumType else None)

abbrev pub type_layout : Data → Layout
type_layout d = option_map_or layout.Fields (option_and_then type_kind (option_and_then as_str (get (codes "type") d))) (layout.Refused cause.WrongForm)

abbrev pub layout_of : Form → Data → Layout
layout_of form.Anything d = layout.Free
layout_of form.Value d = layout.Values
layout_of form.Document d = document_layout d
layout_of form.Run d = process_layout d
layout_of form.Process d = process_layout d
layout_of form.Packed d = layout.Fields kind.Packed
layout_of form.Version d = layout.Refused cause.WrongVersion
layout_of form.Type d = type_layout d
layout_of form.InputType d = type_layout d
layout_of form.OutputType d = type_layout d
layout_of form.Argument d = layout.Fields kind.Argument
layout_of form.SecondaryFile d = layout.Fields kind.SecondaryFile
layout_of form.SecondaryFiles d = layout.Fields kind.SecondaryFile
layout_of form.StepOutput d = layout.Fields kind.StepOutput
layout_of (form.Object kind) d = layout.Fields kind
layout_of (form.Objects kind) d = layout.ByKey kind
layout_of (form.Keyed kind) d = layout.KeyedFields kind
layout_of form.Requirement d = requirement_layout d
layout_of form.Requirements d = layout.Requirements
layout_of form.Hint d = hint_layout d
layout_of form.Hints d = layout.Hints
layout_of _ d = layout.Refused cause.WrongForm

-- ---- members

-- the names that are ignored at every object, beside each that has a colon
abbrev pub names_read_over : List (List ℕ)
names_read_over = codes "doc" ∷ codes "label" ∷ codes "intent" ∷ codes "format" ∷ codes "streamable" ∷ codes "$namespaces" ∷ codes "$schemas" ∷ []

abbrev pub is_read_over : List ℕ → Bool
is_read_over name = is_one_of names_read_over name || has_byte 58 name

-- the field that the key of a map stands for
abbrev pub subject_of : Kind → List ℕ
subject_of kind.Variable = codes "envName"
subject_of kind.PlainRequirement = codes "class"
subject_of kind.EnvVarRequirement = codes "class"
subject_of kind.WorkReuse = codes "class"
subject_of _ = codes "id"

abbrev pub key_fits : Kind → List ℕ → Bool
key_fits kind.Variable key = true
key_fits kind.Step key = is_step_id (plain_id key)
key_fits _ key = is_id (plain_id key)

abbrev pub field_form : Kind → List ℕ → Result Form Cause
field_form kind name = option_map_or Ok (form_of kind name) (if is_read_over name then Ok form.Anything else Err cause.UnknownField)

-- the form of a member of that name, or why there may be none
abbrev pub member_form : Layout → List ℕ → Result Form Cause
member_form (layout.Fields kind) name = field_form kind name
member_form (layout.KeyedFields kind) name = field_form kind name
member_form (layout.ByKey kind) name = if key_fits kind name then Ok (form.Keyed kind) else Err cause.WrongForm
member_form layout.Requirements name = option_map_or (λ kind. Ok (form.Keyed kind)) (known_requirement name) (Err cause.UnknownRequirement)
member_form layout.Hints name = option_map_or (λ kind. Ok (form.Keyed kind)) (acting_requirement name) (Ok form.Anything)
member_form layout.Values name = Ok form.Value
member_form _ name = Ok form.Anything

-- the first of the rows that has to be there and isn't, but for the one that is given
abbrev pub missing : List ℕ → Data → List Row → Option (List ℕ)
missing given d [] = None
missing given d (row ∷ rows) = if row.required && not (bytes_eq row.name given) && is_none (get row.name d) then Some row.name else missing given d rows

abbrev pub missing_field : Layout → Data → Option (List ℕ)
missing_field layout.Unclassed d = Some (codes "class")
missing_field layout.Unversioned d = Some (codes "cwlVersion")
missing_field (layout.Fields kind) d = missing [] d (rows_of kind)
missing_field (layout.KeyedFields kind) d = missing (subject_of kind) d (rows_of kind)
missing_field _ d = None
