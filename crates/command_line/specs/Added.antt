-- The words that a value adds to a command (CWL v1.2, Command Line Tool Description, "CommandLineBinding").
use Rattle.std.specs.Prelude.{ℕ, Bool, true, false, List, [], ◌∷◌, ◌++◌, Option, Some, None, option_map, option_and_then, map, is_some, ◌||◌}
use Rattle.std.specs.Option.{option_to_list, option_map_or}
use Rattle.std.specs.List.{find, list_any}
use Rattle.std.specs.Fmt.{signed_decimal}
use Rattle.cwl_value.specs.declared.place.Place.{Place}
use Rattle.cwl_value.specs.declared.place.Place.TheVariants.{Nowhere, Url, Path, Made}
use Rattle.cwl_value.specs.declared.value.DirVal.{DirVal, out-DirVal}
use Rattle.cwl_value.specs.declared.value.FileVal.{FileVal, out-FileVal}
use Rattle.cwl_value.specs.declared.value.Value.{Value, out-Value}
use Rattle.cwl_value.specs.declared.value.Value as value
use Rattle.cwl_value.specs.declared.value.Value.TheFolds.{para-Value}
use Rattle.cwl_value.specs.declared.value.Value.TheOpen.{Value-F}
use Rattle.cwl_types.specs.declared.types.ArrayType.{ArrayType, fold-ArrayType, out-ArrayType}
use Rattle.cwl_types.specs.declared.types.ItemBinding.{ItemBinding}
use Rattle.cwl_types.specs.declared.types.MemberType.{MemberType, out-MemberType, fold-MemberType}
use Rattle.cwl_types.specs.declared.types.MemberType.TheOpen.{MemberType-F, ArrayType-F}
use Rattle.type_check.specs.Fits.{fits_member}

-- How a value is written: what stands before it, whether as a word of its own, and what joins the items of a list to one text.
pub record Style : Type 0 where
  pub prefix : Option (List ℕ)
  pub separate : Bool
  pub separator : Option (List ℕ)

-- with nothing around it
abbrev pub bare : Style
bare = record { prefix = None; separate = true; separator = None }

abbrev pub after_prefix : Option (List ℕ) → Bool → List ℕ → List (List ℕ)
after_prefix None separate text = text ∷ []
after_prefix (Some prefix) true text = prefix ∷ text ∷ []
after_prefix (Some prefix) false text = (prefix ++ text) ∷ []

-- a text after its prefix: two words where they are separate, and else one
abbrev pub prefixed : Style → List ℕ → List (List ℕ)
prefixed style = after_prefix style.prefix style.separate

-- ---- values that are a text

abbrev pub path_in : Place → Option (List ℕ)
path_in Nowhere = None
path_in (Url location) = None
path_in (Path path) = Some path
path_in (Made job name) = None

abbrev pub text_at : Value-F Value DirVal FileVal → Option (List ℕ)
text_at Value-F.Null = None
text_at (Value-F.Bool flag) = None
text_at (Value-F.Whole number) = Some (signed_decimal number)
text_at (Value-F.Text text) = Some text
text_at (Value-F.FileVal file) = path_in (out-FileVal file).place
text_at (Value-F.DirVal dir) = path_in (out-DirVal dir).place
text_at (Value-F.List items) = None
text_at (Value-F.Fields fields) = None

-- a text, a decimal number, or the path of a File or Directory
abbrev pub text_of : Value → Option (List ℕ)
text_of v = text_at (out-Value v)

-- ---- lists

abbrev pub appended : {Y : Type 0} → Option (List Y) → Option (List Y) → Option (List Y)
appended (Some ys) (Some zs) = Some (ys ++ zs)
appended (Some ys) None = None
appended None rest = None

-- what each gives, one after the other, where all of them give something
abbrev pub gathered : {X Y : Type 0} → (X → Option (List Y)) → List X → Option (List Y)
gathered f [] = Some []
gathered f (x ∷ xs) = appended (f x) (gathered f xs)

-- the texts of values with a separator between them
abbrev pub separated : List ℕ → List Value → Option (List ℕ)
separated separator [] = Some []
separated separator (v ∷ vs) = appended (text_of v) (gathered (λ w. option_map (λ text. separator ++ text) (text_of w)) vs)

abbrev pub array_at : MemberType-F MemberType ArrayType → Option ArrayType
array_at (MemberType-F.Plain kind) = None
array_at (MemberType-F.Array array) = Some array
array_at (MemberType-F.Enum symbols) = None

-- Of a type the first member counts that the value fits: that member, where it is an array.
abbrev pub array_of : List MemberType → Value → Option ArrayType
array_of types v = option_and_then (λ member. array_at (out-MemberType member)) (find (λ member. fits_member member v) types)

abbrev pub style_of_items : Option ItemBinding → Style
style_of_items None = bare
style_of_items (Some binding) = record { prefix = binding.prefix; separate = binding.separate; separator = None }

-- how the items are written, and of which type they are
abbrev pub item_style : Option ArrayType → Style
item_style array = option_map_or (λ a. style_of_items (out-ArrayType a).binding) array bare

abbrev pub item_types : Option ArrayType → List MemberType
item_types array = option_map_or (λ a. (out-ArrayType a).items) array []

-- ---- words

-- what a value adds where it is of a type and written in a style; None where it has no text
abbrev pub Adds : Type 0
Adds = List MemberType → Style → Option (List (List ℕ))

-- a list's items, each beside what it adds
abbrev pub words_of_items : Option (List ℕ) → List (Value × Adds) → Adds
words_of_items (Some separator) items types style = option_map (prefixed style) (separated separator (map (λ i. i.0) items))
words_of_items None items types style =
    let array = array_of types (value.List (map (λ i. i.0) items)) in
    option_map (λ words. option_to_list style.prefix ++ words) (gathered (λ i. i.1 (item_types array) (item_style array)) items)

abbrev pub list_adds : List (Value × Adds) → Adds
list_adds [] types style = Some []
list_adds (i ∷ is) types style = words_of_items style.separator (i ∷ is) types style

abbrev pub text_adds : Option (List ℕ) → Adds
text_adds text types style = option_map (prefixed style) text

abbrev pub value_adds : Value-F (Value × Adds) (DirVal × Unit {0}) (FileVal × Unit {0}) → Adds
value_adds Value-F.Null types style = Some []
value_adds (Value-F.Bool false) types style = Some []
value_adds (Value-F.Bool true) types style = Some (option_to_list style.prefix)
value_adds (Value-F.Whole number) types style = text_adds (Some (signed_decimal number)) types style
value_adds (Value-F.Text text) types style = text_adds (Some text) types style
value_adds (Value-F.FileVal file) types style = text_adds (path_in (out-FileVal file.0).place) types style
value_adds (Value-F.DirVal dir) types style = text_adds (path_in (out-DirVal dir.0).place) types style
value_adds (Value-F.List items) types style = list_adds items types style
value_adds (Value-F.Fields fields) types style = Some (option_to_list style.prefix)

-- the words of a value
abbrev pub adds : Value → Adds
adds = para-Value Adds (Unit {0}) (Unit {0}) value_adds (λ dir. tt) (λ file. tt)

-- ---- items with a binding of their own

abbrev pub array_binds : ArrayType-F Bool Bool → Bool
array_binds array = is_some array.binding || list_any (λ binds. binds) array.items

abbrev pub member_binds : MemberType-F Bool Bool → Bool
member_binds (MemberType-F.Plain kind) = false
member_binds (MemberType-F.Array binds) = binds
member_binds (MemberType-F.Enum symbols) = false

-- whether a member has, at any depth, an array type with a binding of its own
abbrev pub binds_items : MemberType → Bool
binds_items = fold-MemberType Bool Bool member_binds array_binds

abbrev pub array_binds_items : ArrayType → Bool
array_binds_items = fold-ArrayType Bool Bool member_binds array_binds
