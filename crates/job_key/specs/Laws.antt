-- What equal keys say: equal tools, equal environments, and equal inputs without their places.
use Rattle.std.specs.Prelude.{◌≡◌, ℕ, Bool, IsTrue, List, Some, option_map, unwrap_or, bytes_eq}
use Rattle.std.specs.List.{list_any}
use Rattle.plain_data.specs.ByName.{value_at}
use Rattle.serde_json.specs.Data.{Data}
use Rattle.serde_json.specs.Written.{compact_text}
use Rattle.cwl_value.specs.Canonical.{HasWholeNumbers}
use Rattle.cwl_value.specs.Erased.{erased}
use Rattle.cwl_value.specs.Plain.{IsPlain}
use Rattle.cwl_value.specs.declared.value.Value.{Value}
use Rattle.cwl_value.specs.declared.value.Value.TheVariants.{Null}
use Rattle.cwl_process.specs.declared.tool.Tool.{Tool}
use Rattle.job_key.specs.Key.{Fields, key, variables_of}

-- whether the tool has an input of this name
abbrev pub is_input : Tool → List ℕ → Bool
is_input tool name = list_any (λ i. bytes_eq name i.0) tool.inputs

-- the input's value without its places; null where it is not given
abbrev pub erased_input : Fields → List ℕ → Value
erased_input given name = unwrap_or (option_map erased (value_at name given)) Null

-- the tool was written as JSON whose numbers are whole
abbrev pub IsWritten : Tool → Type 0
IsWritten tool = (d : Data) × HasWholeNumbers d × (tool.written ≡ compact_text d)

-- Each input that is given is plain once it is erased: its listings are in the order in which they are written, and none
-- of its fields have the class of a File or Directory.
abbrev pub ArePlainInputs : Fields → Type 0
ArePlainInputs given = (name : List ℕ) (v : Value) → value_at name given ≡ Some v → IsPlain (erased v)

-- a tool and inputs whose key tells them
pub record IsTold (tool : Tool) (given : Fields) : Type 0 where
  pub written : IsWritten tool
  pub plain : ArePlainInputs given

-- Both were written alike, and the same variables are in force. They have inputs of the same names, and under each the same value.
pub record AreEqualJobs (t u : Tool) (a b : Fields) : Type 0 where
  pub tool : t.written ≡ u.written
  pub environment : variables_of t ≡ variables_of u
  pub names : (name : List ℕ) → is_input t name ≡ is_input u name
  pub values : (name : List ℕ) → IsTrue (is_input t name) → erased_input a name ≡ erased_input b name

abbrev pub KeysTellJobsApart : Type 0
KeysTellJobsApart = (t u : Tool) (a b : Fields) → IsTold t a → IsTold u b → key t a ≡ key u b → AreEqualJobs t u a b
