-- What is in the arrays of a type: the items of all of them, the items of all arrays among those, and so on.
use Rattle.std.specs.Prelude.{ℕ, zero, suc, Bool, false, List, []}
use Rattle.std.specs.List.{flat_map, list_any}
use Rattle.cwl_types.specs.declared.types.ArrayType.{out-ArrayType}
use Rattle.cwl_types.specs.declared.types.MemberType.{MemberType, out-MemberType}
use Rattle.cwl_types.specs.declared.types.MemberType.TheOpen.{MemberType-F}
use Rattle.type_check.specs.Overlaps.{Seen, has_lists}

abbrev pub items_at : Seen → List MemberType
items_at (MemberType-F.Plain kind) = []
items_at (MemberType-F.Array array) = (out-ArrayType array).items
items_at (MemberType-F.Enum symbols) = []

-- the members of the items of all arrays
abbrev pub items_of : List MemberType → List MemberType
items_of members = flat_map (λ member. items_at (out-MemberType member)) members

-- the members so many arrays deep
abbrev pub at_depth : ℕ → List MemberType → List MemberType
at_depth zero members = members
at_depth (suc depth) members = at_depth depth (items_of members)

abbrev pub lists_at : Seen → Bool
lists_at (MemberType-F.Plain kind) = has_lists kind
lists_at (MemberType-F.Array array) = false
lists_at (MemberType-F.Enum symbols) = false

-- a member is a type by its name that overlaps arrays
abbrev pub some_has_lists : List MemberType → Bool
some_has_lists members = list_any (λ member. lists_at (out-MemberType member)) members
