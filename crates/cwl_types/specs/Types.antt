-- What the JSON at a type stands for, where it keeps to the table of fields (CWL v1.2, Command Line Tool Description, "CWLType",
-- "CommandInputArraySchema", "CommandInputEnumSchema").
use Rattle.std.specs.Prelude.{ℕ, ◌++◌, List, [], ◌∷◌, Bool, true, false, Option, None, option_map, option_and_then, unwrap_or, if◌then◌else◌, codes}
use Rattle.std.specs.Option.{option_map_or}
use Rattle.std.specs.Str.{bytes_eq}
use Rattle.serde_json.specs.Data.{Data, null, boolean, number, string, array, object, Items, no_items, item, Members, no_members, member}
use Rattle.serde_json.specs.Find.{as_bool, as_str, get}
use Rattle.document_table.specs.Texts.{plain_id}
use Rattle.cwl_types.specs.Named.{Named, named_type}
use Rattle.cwl_types.specs.declared.types.ItemBinding.{ItemBinding}
use Rattle.cwl_types.specs.declared.types.MemberType.{MemberType}
use Rattle.cwl_types.specs.declared.types.MemberType.TheVariants.{Plain, Array, Enum}
use Rattle.cwl_types.specs.declared.types.PlainType.TheVariants.{Null}

abbrev pub array_of : List MemberType → Option ItemBinding → MemberType
array_of items binding = Array (record { items = items; binding = binding })

-- ---- texts

abbrev pub member_named : Named → MemberType
member_named n = if n.array then array_of (Plain n.plain ∷ []) None else Plain n.plain

abbrev pub members_named : Named → List MemberType
members_named n = if n.optional then Plain Null ∷ member_named n ∷ [] else member_named n ∷ []

abbrev pub text_type : List ℕ → List MemberType
text_type text = option_map_or members_named (named_type text) []

-- ---- objects

abbrev pub text_in : Data → List ℕ
text_in d = unwrap_or (as_str d) []

-- A symbol may begin with `#`, as an id.
abbrev pub texts_in : Items → List (List ℕ)
texts_in no_items = []
texts_in (item d ds) = plain_id (text_in d) ∷ texts_in ds

abbrev pub symbols_in : Data → List (List ℕ)
symbols_in null = []
symbols_in (boolean b) = []
symbols_in (number n) = []
symbols_in (string s) = []
symbols_in (array ds) = texts_in ds
symbols_in (object ms) = []

abbrev pub binding_in : Data → ItemBinding
binding_in d = record {
  prefix = option_and_then as_str (get (codes "prefix") d);
  separate = unwrap_or (option_and_then as_bool (get (codes "separate") d)) true;
}

-- the object's type says whether it is an array or an enum
abbrev pub is_array : Data → Bool
is_array d = option_map_or (λ s. bytes_eq s (codes "array")) (option_and_then as_str (get (codes "type") d)) false

abbrev pub object_type : Data → List MemberType → MemberType
object_type d items = if is_array d then array_of items (option_map binding_in (get (codes "inputBinding") d)) else Enum (option_map_or symbols_in (get (codes "symbols") d) [])

-- ---- types

abbrev mutual
  -- the members of the type
  pub type_in : Data → List MemberType
  type_in null = []
  type_in (boolean b) = []
  type_in (number n) = []
  type_in (string s) = text_type s
  type_in (array ds) = types_in ds
  type_in (object ms) = object_type (object ms) (items_in ms) ∷ []

  -- the members of each type
  pub types_in : Items → List MemberType
  types_in no_items = []
  types_in (item d ds) = type_in d ++ types_in ds

  -- the type of the field `items`
  pub items_in : Members → List MemberType
  items_in no_members = []
  items_in (member name d ms) = if bytes_eq name (codes "items") then type_in d else items_in ms
