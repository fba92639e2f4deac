-- Which values a type has (CWL v1.2, Command Line Tool Description, "CWLType", "CommandInputArraySchema", "CommandInputEnumSchema").
use Rattle.std.specs.Prelude.{ℕ, ℤ, pos, negsuc, int_le, Bool, true, false, ◌&&◌, List, map}
use Rattle.std.specs.List.{list_any, list_all}
use Rattle.std.specs.Str.{bytes_eq}
use Rattle.cwl_value.specs.declared.value.Value.{Value, out-Value}
use Rattle.cwl_value.specs.declared.value.Value.TheOpen.{Value-F}
use Rattle.cwl_value.specs.declared.value.FileVal.{FileVal}
use Rattle.cwl_value.specs.declared.value.DirVal.{DirVal}
use Rattle.cwl_types.specs.declared.types.PlainType.{PlainType}
use Rattle.cwl_types.specs.declared.types.PlainType.TheVariants as plain
use Rattle.cwl_types.specs.declared.types.MemberType.{MemberType, fold-MemberType}
use Rattle.cwl_types.specs.declared.types.MemberType.TheOpen.{MemberType-F, ArrayType-F}

-- whether a value is one of a type's
abbrev pub Test : Type 0
Test = Value → Bool

-- a whole number of 32 bits
abbrev pub is_int : ℤ → Bool
is_int n = int_le (negsuc 2147483647) n && int_le n (pos 2147483647)

abbrev pub plain_at : PlainType → Value-F Value DirVal FileVal → Bool
plain_at plain.Null Value-F.Null = true
plain_at plain.Boolean (Value-F.Bool flag) = true
plain_at plain.Int (Value-F.Whole number) = is_int number
plain_at plain.Long (Value-F.Whole number) = true
plain_at plain.Text (Value-F.Text text) = true
plain_at plain.File (Value-F.FileVal file) = true
plain_at plain.Directory (Value-F.DirVal dir) = true
plain_at plain.Any Value-F.Null = false
plain_at plain.Any _ = true
plain_at _ _ = false

-- the values of a type by its name
abbrev pub is_plain : PlainType → Test
is_plain kind value = plain_at kind (out-Value value)

abbrev pub symbol_at : List (List ℕ) → Value-F Value DirVal FileVal → Bool
symbol_at symbols (Value-F.Text text) = list_any (λ symbol. bytes_eq symbol text) symbols
symbol_at symbols _ = false

-- the values of an enum: the texts that it lists
abbrev pub is_symbol : List (List ℕ) → Test
is_symbol symbols value = symbol_at symbols (out-Value value)

-- a value that passes one of the tests
abbrev pub is_any : List Test → Test
is_any tests value = list_any (λ test. test value) tests

abbrev pub list_at : Test → Value-F Value DirVal FileVal → Bool
list_at item (Value-F.List values) = list_all item values
list_at item _ = false

-- the values of an array: lists, each of whose items passes
abbrev pub is_list : Test → Test
is_list item value = list_at item (out-Value value)

abbrev pub member_test : MemberType-F Test Test → Test
member_test (MemberType-F.Plain kind) = is_plain kind
member_test (MemberType-F.Array test) = test
member_test (MemberType-F.Enum symbols) = is_symbol symbols

abbrev pub array_test : ArrayType-F Test Test → Test
array_test array = is_list (is_any array.items)

-- whether a value is one of a member's
abbrev pub fits_member : MemberType → Test
fits_member = fold-MemberType Test Test member_test array_test

-- whether a value is one of a type's: it fits a member
abbrev pub fits : List MemberType → Test
fits members = is_any (map fits_member members)
