-- What the canonical text of JSON tells apart (RFC 8259: each value has a text of its own).
use Rattle.std.specs.Prelude.{◌≡◌, pos, negsuc, ◌^◌, ◌<◌, ⊤}
use Rattle.serde_json.specs.Data.{Num, unsigned, negative, float, Data, null, boolean, number, string, array, object, Items, no_items, item, Members, no_members, member}
use Rattle.serde_json.specs.Written.{compact_text}

-- a whole number of 64 bits, with a sign or without one
abbrev pub IsWhole : Num → Type 0
IsWhole (unsigned n) = n < 2 ^ 64
IsWhole (negative (pos n)) = ⊥
IsWhole (negative (negsuc n)) = n < 2 ^ 63
IsWhole (float x) = ⊥

-- each number in the JSON is whole
abbrev mutual
  pub HasWholeNumbers : Data → Type 0
  HasWholeNumbers null = ⊤
  HasWholeNumbers (boolean b) = ⊤
  HasWholeNumbers (number n) = IsWhole n
  HasWholeNumbers (string s) = ⊤
  HasWholeNumbers (array ds) = ItemsHaveWholeNumbers ds
  HasWholeNumbers (object ms) = MembersHaveWholeNumbers ms

  pub ItemsHaveWholeNumbers : Items → Type 0
  ItemsHaveWholeNumbers no_items = ⊤
  ItemsHaveWholeNumbers (item d ds) = HasWholeNumbers d × ItemsHaveWholeNumbers ds

  pub MembersHaveWholeNumbers : Members → Type 0
  MembersHaveWholeNumbers no_members = ⊤
  MembersHaveWholeNumbers (member k d ms) = HasWholeNumbers d × MembersHaveWholeNumbers ms

-- JSON without fractions that has one text is one
abbrev pub TextsTellJsonApart : Type 0
TextsTellJsonApart = (d e : Data) → HasWholeNumbers d → HasWholeNumbers e → compact_text d ≡ compact_text e → d ≡ e
