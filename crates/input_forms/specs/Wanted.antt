-- What an input wants: a File at standard input, or a value of one of its types; and what stands in for it.
use Rattle.std.specs.Prelude.{Bool, true, false, not, List, Option, Some, None}
use Rattle.std.specs.List.{list_any}
use Rattle.cwl_types.specs.declared.types.ArrayType.{ArrayType}
use Rattle.cwl_types.specs.declared.types.MemberType.{MemberType, out-MemberType}
use Rattle.cwl_types.specs.declared.types.MemberType.TheOpen.{MemberType-F}
use Rattle.cwl_types.specs.declared.types.PlainType.{PlainType}
use Rattle.cwl_types.specs.declared.types.PlainType.TheVariants as plain
use Rattle.cwl_process.specs.declared.tool.InputType.{InputType}
use Rattle.cwl_process.specs.declared.tool.InputType.TheVariants as input_type
use Rattle.cwl_value.specs.declared.value.Value.{Value}

abbrev pub is_null_type : PlainType → Bool
is_null_type plain.Null = true
is_null_type _ = false

abbrev pub is_null_at : MemberType-F MemberType ArrayType → Bool
is_null_at (MemberType-F.Plain kind) = is_null_type kind
is_null_at (MemberType-F.Array array) = false
is_null_at (MemberType-F.Enum symbols) = false

abbrev pub member_is_null : MemberType → Bool
member_is_null member = is_null_at (out-MemberType member)

-- null is one of the types
abbrev pub may_be_null : List MemberType → Bool
may_be_null members = list_any member_is_null members

-- the types of an input, which that of standard input has none of
abbrev pub types_of : InputType → Option (List MemberType)
types_of input_type.Stdin = None
types_of (input_type.Members members) = Some members

abbrev pub admits_null : Option (List MemberType) → Bool
admits_null None = false
admits_null (Some members) = may_be_null members

-- a value has to be given
abbrev pub is_needed : (types : Option (List MemberType)) (default : Option Value) → Bool
is_needed types (Some value) = false
is_needed types None = not (admits_null types)
