-- Texts, numbers and booleans at fields. Of JSON that keeps to the table of fields these are what it says; the values for other JSON
-- stand for nothing.
use Rattle.std.specs.Prelude.{ℕ, ℤ, pos, negsuc, int_le, ◌&&◌, List, [], ◌∷◌, map, Bool, Option, Some, None, unwrap_or, option_and_then, if◌then◌else◌}
use Rattle.std.specs.Option.{option_map_or}
use Rattle.std.specs.Borrow.{Bor}
use Rattle.serde_json.specs.Data.{Data, null, boolean, number, string, array, object, Items, no_items, item}
use Rattle.serde_json.specs.Find.{as_bool, as_i64, as_number, as_str, get}
use Rattle.serde_json.specs.View.{view}
use Rattle.serde_json.specs.declared.value.Value.{Value}
use Rattle.document_table.specs.Texts.{plain_id}

abbrev pub text_in : Data → List ℕ
text_in d = unwrap_or (as_str d) []

abbrev pub text_at : List ℕ → Data → Option (List ℕ)
text_at name d = option_and_then as_str (get name d)

-- a boolean, or what it is where the field is absent
abbrev pub flag_at : List ℕ → Bool → Data → Bool
flag_at name absent d = unwrap_or (option_and_then as_bool (get name d)) absent

-- whole, and of 32 bits
abbrev pub narrow : ℤ → Option ℤ
narrow z = if int_le (negsuc 2147483647) z && int_le z (pos 2147483647) then Some z else None

abbrev pub int_in : Data → ℤ
int_in d = unwrap_or (option_and_then narrow (option_and_then as_i64 (as_number d))) (pos 0)

-- 0 where the field is absent
abbrev pub int_at : List ℕ → Data → ℤ
int_at name d = option_map_or int_in (get name d) (pos 0)

-- ---- lists

abbrev pub elements : Items → List Data
elements no_items = []
elements (item d ds) = d ∷ elements ds

-- the items of a list; another value is a list of itself
abbrev pub one_or_more : Data → List Data
one_or_more null = null ∷ []
one_or_more (boolean b) = boolean b ∷ []
one_or_more (number n) = number n ∷ []
one_or_more (string s) = string s ∷ []
one_or_more (array ds) = elements ds
one_or_more (object ms) = object ms ∷ []

-- none where the field is absent
abbrev pub list_at : List ℕ → Data → List Data
list_at name d = option_map_or one_or_more (get name d) []

abbrev pub texts_at : List ℕ → Data → List (List ℕ)
texts_at name d = map text_in (list_at name d)

abbrev pub ints_at : List ℕ → Data → List ℤ
ints_at name d = map int_in (list_at name d)

-- the names that a field lists, each of which may begin with `#`
abbrev pub name_in : Data → List ℕ
name_in d = plain_id (text_in d)

abbrev pub names_at : List ℕ → Data → List (List ℕ)
names_at name d = map name_in (list_at name d)

-- a value that the code has
abbrev pub value_seen : Bor Value → Data
value_seen v = view v.now
