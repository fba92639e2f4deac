-- How deep the JSON of a value may nest, so that it can be read back: as deep as `cwl_value` reads it.
use Rattle.std.specs.Prelude.{ℕ, Bool, nat_le, List}
use Rattle.serde_json.specs.Data.{object, depth}
use Rattle.cwl_value.specs.Json.{json_of, fields_json}
use Rattle.cwl_value.specs.Reading.{greatest_depth}
use Rattle.cwl_value.specs.declared.value.Value.{Value}

-- of a value
abbrev pub is_within_limit : Value → Bool
is_within_limit v = nat_le (depth (json_of v)) greatest_depth

-- of the object that has values under names
abbrev pub is_object_within_limit : List (List ℕ × Value) → Bool
is_object_within_limit fields = nat_le (depth (object (fields_json fields))) greatest_depth
