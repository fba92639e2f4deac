-- What JSON text reads as (RFC 8259).
use Rattle.std.specs.Prelude.{◌≡◌, ℕ, List, Some, None, Err, IsUtf8}
use Rattle.serde_json.specs.Data.{Data}
use Rattle.serde_json.specs.Read as json
use Rattle.cwl_value.specs.Reading.{Reads, reading}
use Rattle.cwl_value.specs.declared.refusal.ValueRefusal.TheVariants.{NotJson}
use Rattle.cwl_value.specs.declared.value.Value.{Value}

pub data ReadsAs (bytes : List ℕ) : Reads Value → Type 0 where
  -- bytes that are no text, or text that serde_json does not read, nesting over its 127 levels among it
  not_json : (IsUtf8 bytes → json.read bytes ≡ None) → ReadsAs bytes (Err NotJson)
  -- what the JSON that is read stands for
  as_json : (d : Data) → IsUtf8 bytes → json.read bytes ≡ Some d → ReadsAs bytes (reading d)
