-- Which types may have a value in common, so that a link between them can carry one (CWL v1.2, Workflow Description, "Workflow Graph").
-- A list is compared by its items' types, although the empty list fits each array.
use Rattle.std.specs.Prelude.{ℕ, Bool, true, false, List, map}
use Rattle.std.specs.List.{list_any}
use Rattle.std.specs.Str.{bytes_eq}
use Rattle.cwl_types.specs.declared.types.PlainType.{PlainType}
use Rattle.cwl_types.specs.declared.types.PlainType.TheVariants as plain
use Rattle.cwl_types.specs.declared.types.ArrayType.{ArrayType, out-ArrayType}
use Rattle.cwl_types.specs.declared.types.MemberType.{MemberType, fold-MemberType, out-MemberType}
use Rattle.cwl_types.specs.declared.types.MemberType.TheOpen.{MemberType-F, ArrayType-F}

-- a member seen from above
abbrev pub Seen : Type 0
Seen = MemberType-F MemberType ArrayType

-- whether a member overlaps
abbrev pub Meets : Type 0
Meets = MemberType → Bool

-- two types by their names: one name, int and long, and Any with all but null
abbrev pub plains_overlap : PlainType → PlainType → Bool
plains_overlap plain.Null plain.Null = true
plains_overlap plain.Null _ = false
plains_overlap _ plain.Null = false
plains_overlap plain.Any _ = true
plains_overlap _ plain.Any = true
plains_overlap plain.Boolean plain.Boolean = true
plains_overlap plain.Int plain.Int = true
plains_overlap plain.Int plain.Long = true
plains_overlap plain.Long plain.Int = true
plains_overlap plain.Long plain.Long = true
plains_overlap plain.Text plain.Text = true
plains_overlap plain.File plain.File = true
plains_overlap plain.Directory plain.Directory = true
plains_overlap _ _ = false

-- a type by its name overlaps arrays: Any alone
abbrev pub has_lists : PlainType → Bool
has_lists plain.Any = true
has_lists _ = false

-- a type by its name overlaps enums: Any and string
abbrev pub has_texts : PlainType → Bool
has_texts plain.Any = true
has_texts plain.Text = true
has_texts _ = false

abbrev pub plain_at : PlainType → Seen → Bool
plain_at kind (MemberType-F.Plain other) = plains_overlap kind other
plain_at kind (MemberType-F.Array other) = has_lists kind
plain_at kind (MemberType-F.Enum symbols) = has_texts kind

abbrev pub plain_meets : PlainType → Meets
plain_meets kind other = plain_at kind (out-MemberType other)

-- two enums have a symbol in common
abbrev pub share_symbol : List (List ℕ) → List (List ℕ) → Bool
share_symbol symbols others = list_any (λ symbol. list_any (λ other. bytes_eq other symbol) others) symbols

abbrev pub enum_at : List (List ℕ) → Seen → Bool
enum_at symbols (MemberType-F.Plain other) = has_texts other
enum_at symbols (MemberType-F.Array other) = false
enum_at symbols (MemberType-F.Enum others) = share_symbol symbols others

abbrev pub enum_meets : List (List ℕ) → Meets
enum_meets symbols other = enum_at symbols (out-MemberType other)

-- one of the tests is met by one of the members
abbrev pub some_meet : List Meets → List MemberType → Bool
some_meet tests others = list_any (λ test. list_any test others) tests

abbrev pub array_at : ArrayType-F Meets Meets → Seen → Bool
array_at array (MemberType-F.Plain other) = has_lists other
array_at array (MemberType-F.Array other) = some_meet array.items (out-ArrayType other).items
array_at array (MemberType-F.Enum symbols) = false

-- two arrays overlap where their items' types do
abbrev pub array_meets : ArrayType-F Meets Meets → Meets
array_meets array other = array_at array (out-MemberType other)

abbrev pub member_meets : MemberType-F Meets Meets → Meets
member_meets (MemberType-F.Plain kind) = plain_meets kind
member_meets (MemberType-F.Array meets) = meets
member_meets (MemberType-F.Enum symbols) = enum_meets symbols

-- whether two members overlap
abbrev pub members_overlap : MemberType → Meets
members_overlap = fold-MemberType Meets Meets member_meets array_meets

-- whether two types overlap: a member of one overlaps a member of the other
abbrev pub overlaps : List MemberType → List MemberType → Bool
overlaps members others = some_meet (map members_overlap members) others
