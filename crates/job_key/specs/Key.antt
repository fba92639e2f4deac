-- What decides a job's outputs, as one text: its environment, its inputs and its tool.
use Rattle.std.specs.Prelude.{ℕ, List, [], ◌∷◌, ◌++◌, codes, unwrap_or, map, option_map}
use Rattle.plain_data.specs.ByName.{value_at, by_name, map_values}
use Rattle.serde_json.specs.Data.{Data, object, array, string, null, Members}
use Rattle.serde_json.specs.View.{items_of}
use Rattle.serde_json.specs.Written.{compact_text}
use Rattle.cwl_value.specs.Erased.{erased}
use Rattle.cwl_value.specs.Json.{json_of, object_of}
use Rattle.cwl_value.specs.declared.value.Value.{Value}
use Rattle.cwl_process.specs.Acting.{environment_of}
use Rattle.cwl_process.specs.declared.tool.Tool.{Tool}
use Rattle.cwl_process.specs.declared.tool.ToolInput.{ToolInput}
use Rattle.cwl_process.specs.declared.tool.Variable.{Variable}

abbrev pub Key : Type 0
Key = List ℕ

-- named values
abbrev pub Fields : Type 0
Fields = List (List ℕ × Value)

-- ---- the environment

-- each variable with its text as it is written, before references have their values
abbrev pub texts_of : List (List ℕ × Variable) → List (List ℕ × List ℕ)
texts_of variables = map_values (λ (v : Variable). v.written) variables

-- the variables in force, in the order of their names
abbrev pub variables_of : Tool → List (List ℕ × List ℕ)
variables_of tool = by_name (texts_of (unwrap_or (environment_of tool.asked) []))

abbrev pub variable_json : List ℕ × List ℕ → Data
variable_json v = array (items_of (string v.0 ∷ string v.1 ∷ []))

abbrev pub variables_json : List (List ℕ × List ℕ) → Data
variables_json variables = array (items_of (map variable_json variables))

-- ---- the inputs

-- the JSON of an input without its places, at any depth; null where it is not given
abbrev pub input_json : Fields → List ℕ → Data
input_json given name = unwrap_or (option_map (λ v. json_of (erased v)) (value_at name given)) null

-- each input of the tool under its name
abbrev pub inputs_members : List (List ℕ × ToolInput) → Fields → Members
inputs_members inputs given = object_of (map (λ i. (i.0, input_json given i.0)) inputs)

abbrev pub inputs_json : List (List ℕ × ToolInput) → Fields → Data
inputs_json inputs given = object (inputs_members inputs given)

-- ---- the key

-- the compact JSON text, names in order, of an object with `env` (a list of names with their texts), `inputs` and `tool` (the tool's object
-- as it was written, without what says nothing of its outputs)
abbrev pub key : Tool → Fields → Key
key tool given =
    codes "{\"env\":" ++ compact_text (variables_json (variables_of tool))
    ++ codes ",\"inputs\":" ++ compact_text (inputs_json tool.inputs given)
    ++ codes ",\"tool\":" ++ tool.written ++ codes "}"
