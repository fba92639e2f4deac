-- The grammar of texts with references, over their bytes (CWL v1.2, "Parameter references").
--   reference = `$(` symbol segment* `)`      segment = `.` symbol | `['` text `']` | `["` text `"]` | `[` digits `]`
use Rattle.std.specs.Prelude.{◌≡◌, ℕ, Bool, true, false, not, ◌&&◌, ◌||◌, ◌==◌, List, [], ◌∷◌, ◌++◌, Result, Ok, Err, codes}
use Rattle.std.specs.Char.{is_ascii_alphanumeric, is_ascii_digit}
use Rattle.std.specs.List.{list_all, list_any}
use Rattle.param_refs.specs.declared.fault.RefFault.{RefFault}
use Rattle.param_refs.specs.declared.fault.RefFault.TheVariants.{NotAReference, BackslashOut}
use Rattle.param_refs.specs.declared.template.Part.{Part}
use Rattle.param_refs.specs.declared.template.Part.TheVariants.{Plain, Referred}
use Rattle.param_refs.specs.declared.template.Reference.{Reference}
use Rattle.param_refs.specs.declared.template.Segment.{Segment}
use Rattle.param_refs.specs.declared.template.Segment.TheVariants.{Key, Index}

-- letters, digits and `_`
abbrev pub is_symbol_byte : ℕ → Bool
is_symbol_byte b = is_ascii_alphanumeric b || b == 95

abbrev pub is_symbol : List ℕ → Bool
is_symbol [] = false
is_symbol (b ∷ bs) = is_symbol_byte b && list_all is_symbol_byte bs

-- between two quotes: neither the quote itself nor a backslash
abbrev pub is_quoted : ℕ → List ℕ → Bool
is_quoted quote text = not (list_any (λ b. b == quote || b == 92) text)

abbrev pub is_number : List ℕ → Bool
is_number [] = false
is_number (b ∷ bs) = is_ascii_digit b && list_all is_ascii_digit bs

pub data IsSegment : List ℕ → Segment → Type 0 where
  dotted : (symbol : List ℕ) → is_symbol symbol ≡ true → IsSegment (46 ∷ symbol) (Key symbol)
  in_quotes : (text : List ℕ) → is_quoted 39 text ≡ true → IsSegment (91 ∷ 39 ∷ (text ++ codes "']")) (Key text)
  in_double_quotes : (text : List ℕ) → is_quoted 34 text ≡ true → IsSegment (91 ∷ 34 ∷ (text ++ 34 ∷ 93 ∷ [])) (Key text)
  index : (digits : List ℕ) → is_number digits ≡ true → IsSegment (91 ∷ (digits ++ codes "]")) (Index digits)

pub data AreSegments : List ℕ → List Segment → Type 0 where
  no_segment : AreSegments [] []
  segment : (x y : List ℕ) (s : Segment) (ss : List Segment) → IsSegment x s → AreSegments y ss → AreSegments (x ++ y) (s ∷ ss)

pub data IsReference : List ℕ → Reference → Type 0 where
  reference : (symbol x : List ℕ) (segments : List Segment) → is_symbol symbol ≡ true → AreSegments x segments
      → IsReference (codes "$(" ++ (symbol ++ (x ++ codes ")"))) (record { symbol = symbol; segments = segments })

-- the text begins with `$(` or `${`
abbrev pub opens : List ℕ → Bool
opens [] = false
opens (b ∷ []) = false
opens (b ∷ c ∷ t) = b == 36 && (c == 40 || c == 123)

abbrev pub has_opening : List ℕ → Bool
has_opening [] = false
has_opening (b ∷ t) = opens (b ∷ t) || has_opening t

-- no `$(` or `${` begins in s, where t follows it
abbrev pub is_plain : List ℕ → List ℕ → Bool
is_plain [] t = true
is_plain (b ∷ s) t = not (opens (b ∷ (s ++ t))) && is_plain s t

-- nothing follows, or `$(` or `${` does
abbrev pub is_end : List ℕ → Bool
is_end [] = true
is_end (b ∷ t) = opens (b ∷ t)

-- no reference begins a text
abbrev pub BeginsNone : List ℕ → Type 0
BeginsNone text = (x rest : List ℕ) (r : Reference) → text ≡ x ++ rest → IsReference x r → ⊥

-- one more part, where what follows it is read
abbrev pub with_part : Part → Result (List Part) RefFault → Result (List Part) RefFault
with_part p (Ok ps) = Ok (p ∷ ps)
with_part p (Err e) = Err e

-- What a text reads as, from left to right: its parts, or NotAReference.
pub data Reads : List ℕ → Result (List Part) RefFault → Type 0 where
  nothing : Reads [] (Ok [])
  -- a plain part goes up to the next `$(` or `${`
  plain : (b : ℕ) (s t : List ℕ) (r : Result (List Part) RefFault) → is_plain (b ∷ s) t ≡ true → is_end t ≡ true → Reads t r → Reads (b ∷ (s ++ t)) (with_part (Plain (b ∷ s)) r)
  referred : (x t : List ℕ) (reference : Reference) (r : Result (List Part) RefFault) → IsReference x reference → Reads t r → Reads (x ++ t) (with_part (Referred reference) r)
  expression : (t : List ℕ) → Reads (codes "${" ++ t) (Err NotAReference)
  no_reference : (t : List ℕ) → BeginsNone (codes "$(" ++ t) → Reads (codes "$(" ++ t) (Err NotAReference)

-- a backslash in a text with `$(` or `${`
abbrev pub is_escaped : List ℕ → Bool
is_escaped text = has_opening text && list_any (λ b. b == 92) text

-- the backslash is looked at first
pub data IsReading (text : List ℕ) : Result (List Part) RefFault → Type 0 where
  escaped : is_escaped text ≡ true → IsReading text (Err BackslashOut)
  unescaped : (r : Result (List Part) RefFault) → is_escaped text ≡ false → Reads text r → IsReading text r
