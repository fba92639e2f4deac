-- The parts of a job's key: a JSON object with the environment, the inputs and the tool of the job (`job_key`).
use Rattle.std.specs.Prelude.{◌≡◌, ◌≢◌, ℕ, ◌<◌, ◌≤◌, Bool, false, List, [], ◌∷◌, Option, Some, None, codes}
use Rattle.plain_data.specs.ByName.{by_name, times}
use Rattle.serde_json.specs.Data.{Data, depth, object, Members, no_members, member}
use Rattle.serde_json.specs.Find.{get}
use Rattle.serde_json.specs.Read.{max_depth, read}
use Rattle.serde_json.specs.Written.{compact_text, has_float}
use Rattle.run_facts.specs.declared.key_parts.KeyParts.{KeyParts}

-- a JSON text of this data
pub record IsTextOf (data_ : Data) (text : List ℕ) : Type 0 where
  pub compact : has_float data_ ≡ false → text ≡ compact_text data_
  pub reads_back : depth data_ ≤ max_depth → read text ≡ Some data_

-- the members of an object, each as its name with such a text
pub data AreTextsOf : Members → List (List ℕ × List ℕ) → Type 0 where
  ended : AreTextsOf no_members []
  member_text : {name text : List ℕ} {value : Data} {members : Members} {texts : List (List ℕ × List ℕ)} →
      IsTextOf value text → AreTextsOf members texts → AreTextsOf (member name value members) ((name, text) ∷ texts)

-- an object is there, and these are its members by their names
pub record IsObjectOf (found : Option Data) (keyed : List (List ℕ × List ℕ)) : Type 0 where
  pub members : Members
  pub texts : List (List ℕ × List ℕ)
  pub is_object : found ≡ Some (object members)
  pub are_texts : AreTextsOf members texts
  pub is_keyed : keyed ≡ by_name texts

-- no object is there, or one with two members of one name
pub data IsNoObject (found : Option Data) : Type 0 where
  other : ((members : Members) → found ≢ Some (object members)) → IsNoObject found
  repeats : {members : Members} {texts : List (List ℕ × List ℕ)} (name : List ℕ) →
      found ≡ Some (object members) → AreTextsOf members texts → 1 < times name texts → IsNoObject found

-- the parts of a key
pub record ArePartsOf (key : Data) (parts : KeyParts) : Type 0 where
  pub env : Data
  pub has_env : get (codes "env") key ≡ Some env
  pub env_text : IsTextOf env parts.env
  pub inputs : IsObjectOf (get (codes "inputs") key) parts.inputs
  pub tool : IsObjectOf (get (codes "tool") key) parts.tool

-- data that has not the parts of a key
pub data HasNoParts (key : Data) : Type 0 where
  without_env : get (codes "env") key ≡ None → HasNoParts key
  without_inputs : IsNoObject (get (codes "inputs") key) → HasNoParts key
  without_tool : IsNoObject (get (codes "tool") key) → HasNoParts key

-- the parts, if the last two are there
abbrev pub joined : (env : List ℕ) (inputs tool : Option (List (List ℕ × List ℕ))) → Option KeyParts
joined env None tool = None
joined env (Some inputs) None = None
joined env (Some inputs) (Some tool) = Some (record { env = env; inputs = inputs; tool = tool })
