-- Canonical texts tell JSON apart: a text has one run of tokens, which has one tree, which stands for one value.
use Rattle.std.proofs.Common.{◌≡◌, ℕ, pos, negsuc, ◌+◌, ◌≤◌, List, [], ◌++◌, Some, option_map, unwrap_or, refl, sym, ap, ap₂, ◌∙◌, arith}
use Rattle.json.specs.Json as json
use Rattle.json.specs.Token.{Token}
use Rattle.json.specs.Lex.{tokens}
use Rattle.json.specs.Print.{IsNumber}
use Rattle.json.specs.Tree.{json_tokens, depth, HasNumbers, ItemsHaveNumbers, MembersHaveNumbers}
use Rattle.json.proofs.Printed.Tokens.{tokens-print}
use Rattle.json.proofs.Printed.Trees.{value-json_tokens, ArePrintable-json_tokens}
use Rattle.json.proofs.Printed.Decimals.{IsNumber-decimal, IsNumber-signed_decimal}
use Rattle.serde_json.specs.Data.{Num, unsigned, negative, float, Data, null, boolean, number, string, array, object, Items, no_items, item, Members, no_members, member}
use Rattle.serde_json.specs.Read.{number_of}
use Rattle.serde_json.specs.Written.{number_text, outline, items_outline, members_outline, compact_text}
use Rattle.serde_json.proofs.Numbers.{number_of-decimal, number_of-negative}
use Rattle.serde_json.proofs.Texts.{print-outline}
use Rattle.cwl_value.specs.Canonical.{IsWhole, HasWholeNumbers, ItemsHaveWholeNumbers, MembersHaveWholeNumbers, TextsTellJsonApart}

IsNumber-number_text : (n : Num) → IsWhole n → IsNumber (number_text n)
IsNumber-number_text (unsigned n) h = IsNumber-decimal n h
IsNumber-number_text (negative (pos n)) h = absurd h
IsNumber-number_text (negative (negsuc n)) h = IsNumber-signed_decimal (negsuc n) h
IsNumber-number_text (float x) h = absurd h

number_of-number_text : (n : Num) → IsWhole n → number_of (number_text n) ≡ Some n
number_of-number_text (unsigned n) h = number_of-decimal n h
number_of-number_text (negative (pos n)) h = absurd h
number_of-number_text (negative (negsuc n)) h = number_of-negative n h
number_of-number_text (float x) h = absurd h

mutual
  HasNumbers-outline : (d : Data) → HasWholeNumbers d → HasNumbers (outline d)
  HasNumbers-outline null h = tt
  HasNumbers-outline (boolean b) h = tt
  HasNumbers-outline (number n) h = IsNumber-number_text n h
  HasNumbers-outline (string s) h = tt
  HasNumbers-outline (array ds) h = ItemsHaveNumbers-outline ds h
  HasNumbers-outline (object ms) h = MembersHaveNumbers-outline ms h

  ItemsHaveNumbers-outline : (ds : Items) → ItemsHaveWholeNumbers ds → ItemsHaveNumbers (items_outline ds)
  ItemsHaveNumbers-outline no_items h = tt
  ItemsHaveNumbers-outline (item d ds) h = (HasNumbers-outline d h.0, ItemsHaveNumbers-outline ds h.1)

  MembersHaveNumbers-outline : (ms : Members) → MembersHaveWholeNumbers ms → MembersHaveNumbers (members_outline ms)
  MembersHaveNumbers-outline no_members h = tt
  MembersHaveNumbers-outline (member k d ms) h = (HasNumbers-outline d h.0, MembersHaveNumbers-outline ms h.1)

tokens-compact_text : (d : Data) → HasWholeNumbers d → tokens (compact_text d) ≡ json_tokens (outline d)
tokens-compact_text d h = ap tokens (sym (print-outline d)) ∙ tokens-print (json_tokens (outline d)) (ArePrintable-json_tokens (outline d) (HasNumbers-outline d h))

-- the value that an outline is of
abbrev mutual
  outlined : json.Json → Data
  outlined json.null = null
  outlined (json.boolean b) = boolean b
  outlined (json.number s) = number (unwrap_or (number_of s) (unsigned 0))
  outlined (json.string s) = string s
  outlined (json.array js) = array (items_outlined js)
  outlined (json.object ms) = object (members_outlined ms)

  items_outlined : json.Items → Items
  items_outlined json.no_items = no_items
  items_outlined (json.item j js) = item (outlined j) (items_outlined js)

  members_outlined : json.Members → Members
  members_outlined json.no_members = no_members
  members_outlined (json.member k j ms) = member k (outlined j) (members_outlined ms)

mutual
  outlined-outline : (d : Data) → HasWholeNumbers d → outlined (outline d) ≡ d
  outlined-outline null h = refl
  outlined-outline (boolean b) h = refl
  outlined-outline (number n) h = ap (λ o. number (unwrap_or o (unsigned 0))) (number_of-number_text n h)
  outlined-outline (string s) h = refl
  outlined-outline (array ds) h = ap array (items_outlined-outline ds h)
  outlined-outline (object ms) h = ap object (members_outlined-outline ms h)

  items_outlined-outline : (ds : Items) → ItemsHaveWholeNumbers ds → items_outlined (items_outline ds) ≡ ds
  items_outlined-outline no_items h = refl
  items_outlined-outline (item d ds) h = ap₂ item (outlined-outline d h.0) (items_outlined-outline ds h.1)

  members_outlined-outline : (ms : Members) → MembersHaveWholeNumbers ms → members_outlined (members_outline ms) ≡ ms
  members_outlined-outline no_members h = refl
  members_outlined-outline (member k d ms) h = ap₂ (member k) (outlined-outline d h.0) (members_outlined-outline ms h.1)

-- the value of a run of tokens that is no deeper than n
abbrev value_of_tokens : ℕ → List Token → Data
value_of_tokens n ts = outlined (unwrap_or (option_map (λ p. p.0) (json.value n (ts ++ []))) json.null)

value_of_tokens-outline : (d : Data) (n : ℕ) → HasWholeNumbers d → depth (outline d) ≤ n → value_of_tokens n (json_tokens (outline d)) ≡ d
value_of_tokens-outline d n h shallow =
    ap (λ o. outlined (unwrap_or (option_map (λ p. p.0) o) json.null)) (value-json_tokens (outline d) n [] shallow) ∙ outlined-outline d h

pub texts_tell_json_apart : TextsTellJsonApart
texts_tell_json_apart d e p q same =
    let n = depth (outline d) + depth (outline e) in
    let one : json_tokens (outline d) ≡ json_tokens (outline e) = sym (tokens-compact_text d p) ∙ ap tokens same ∙ tokens-compact_text e q in
    sym (value_of_tokens-outline d n p (omega arith)) ∙ ap (value_of_tokens n) one ∙ value_of_tokens-outline e n q (omega arith)
