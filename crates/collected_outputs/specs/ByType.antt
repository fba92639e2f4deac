-- The value that an output has by its type, of what its patterns match (CWL v1.2, "CommandOutputBinding").
use Rattle.std.specs.Prelude.{Bool, true, false, if◌then◌else◌, List, [], ◌∷◌, Ok, Err}
use Rattle.std.specs.List.{list_any}
use Rattle.cwl_types.specs.declared.types.MemberType.{MemberType, out-MemberType}
use Rattle.cwl_types.specs.declared.types.MemberType.TheOpen.{MemberType-F}
use Rattle.cwl_types.specs.declared.types.ArrayType.{ArrayType}
use Rattle.cwl_value.specs.declared.value.Value.{Value}
use Rattle.cwl_value.specs.declared.value.Value as value
use Rattle.type_check.specs.Fits.{fits}
use Rattle.collected_outputs.specs.Gives.{Gives}
use Rattle.collected_outputs.specs.declared.fault.CollectFault.TheVariants.{NoMatch, TooMany}

abbrev pub is_array_level : MemberType-F MemberType ArrayType → Bool
is_array_level (MemberType-F.Array array) = true
is_array_level _ = false

abbrev pub is_array : MemberType → Bool
is_array member = is_array_level (out-MemberType member)

-- without a list type: null for none where that fits, the one, and never several
abbrev pub sole_value : List MemberType → List Value → Gives Value
sole_value members [] = (if fits members value.Null then Ok value.Null else Err NoMatch)
sole_value members (v ∷ []) = Ok v
sole_value members (v ∷ w ∷ vs) = Err TooMany

-- a type with a list among its members takes the list
abbrev pub value_by_type : List MemberType → List Value → Gives Value
value_by_type members vs = (if list_any is_array members then Ok (value.List vs) else sole_value members vs)
