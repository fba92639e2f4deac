-- For private clauses: what is known of the members of one level.
use Rattle.std.specs.Borrow.{Bor}
use Rattle.std.specs.Prelude.{◌≡◌, ℕ, Bool, false, List, map}
use Rattle.std.specs.Cmp.Lexicographic.{slice_cmp}
use Rattle.std.specs.List.{list_any}
use Rattle.std.specs.List.Sorted.{IsSorted}
use Rattle.std.specs.Ordering.{nat_cmp}
use Rattle.std.specs.Str.{bytes_eq}
use Rattle.cwl_types.specs.declared.types.MemberType.{MemberType, out-MemberType}
use Rattle.cwl_types.specs.declared.types.MemberType.TheOpen.{MemberType-F}
use Rattle.cwl_types.specs.declared.types.PlainType.{PlainType}
use Rattle.cwl_types.specs.declared.types.PlainType.TheVariants as plain
use Rattle.type_check.specs.Depths.{some_has_lists}
use Rattle.type_check.specs.Overlaps.{Seen, has_texts, plain_meets}
use Rattle.type_check.specs.declared.members.Members.{Members}
use Rattle.type_check.specs.declared.members.Plains.{Plains}

-- what is lent
abbrev pub lent : Bor MemberType → MemberType
lent member = member.now

abbrev pub all_lent : List (Bor MemberType) → List MemberType
all_lent members = map lent members

-- one of the texts that are held is this one
abbrev pub is_held : List ℕ → List (Bor (List ℕ)) → Bool
is_held text held = list_any (λ k. bytes_eq k.now text) held

abbrev pub AreInOrder : List (Bor (List ℕ)) → Type 0
AreInOrder held = IsSorted (λ x y. slice_cmp nat_cmp x.now y.now) held

abbrev pub is_in : List ℕ → List (List ℕ) → Bool
is_in text symbols = list_any (λ other. bytes_eq other text) symbols

abbrev pub symbol_at : List ℕ → Seen → Bool
symbol_at text (MemberType-F.Plain kind) = false
symbol_at text (MemberType-F.Array array) = false
symbol_at text (MemberType-F.Enum symbols) = is_in text symbols

-- a member is an enum with that symbol
abbrev pub has_symbol : List ℕ → MemberType → Bool
has_symbol text member = symbol_at text (out-MemberType member)

abbrev pub texts_at : Seen → Bool
texts_at (MemberType-F.Plain kind) = has_texts kind
texts_at (MemberType-F.Array array) = false
texts_at (MemberType-F.Enum symbols) = false

-- a member is a type by its name that overlaps enums
abbrev pub some_has_texts : List MemberType → Bool
some_has_texts members = list_any (λ member. texts_at (out-MemberType member)) members

-- the answer for a type by its name
abbrev pub answer_for : Plains → PlainType → Bool
answer_for p plain.Null = p.null
answer_for p plain.Boolean = p.boolean
answer_for p plain.Int = p.int
answer_for p plain.Long = p.long
answer_for p plain.Text = p.text
answer_for p plain.File = p.file
answer_for p plain.Directory = p.directory
answer_for p plain.Any = p.any

-- what is held are the symbols of the enums and no other
abbrev pub AreSymbolsOf : List (Bor (List ℕ)) → List MemberType → Type 0
AreSymbolsOf held members = (text : List ℕ) → is_held text held ≡ list_any (has_symbol text) members

abbrev pub ArePlainsOf : Plains → List MemberType → Type 0
ArePlainsOf plains members = (kind : PlainType) → answer_for plains kind ≡ list_any (plain_meets kind) members

-- what is said of the members is so
pub record AreMembers (found : Members) (members : List MemberType) : Type 0 where
  pub plains : ArePlainsOf found.plains members
  pub lists : found.lists ≡ some_has_lists members
  pub texts : found.texts ≡ some_has_texts members
  pub order : AreInOrder found.symbols.items
  pub symbols : AreSymbolsOf found.symbols.items members
