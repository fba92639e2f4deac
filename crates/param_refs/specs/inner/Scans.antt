-- What the scanner finds at the front of a text, part by part. No public contract cites this.
use Rattle.std.specs.Prelude.{◌≡◌, ◌⊎◌, ℕ, ◌<◌, ◌≤◌, Bool, true, false, List, [], ◌∷◌, ◌++◌, length, take, drop, Result}
use Rattle.std.specs.List.{list_all}
use Rattle.param_refs.specs.Grammar.{is_symbol_byte, is_symbol, is_quoted, is_number, IsSegment, AreSegments, IsReference, opens, Reads, with_part}
use Rattle.param_refs.specs.declared.fault.RefFault.{RefFault}
use Rattle.param_refs.specs.declared.template.Part.{Part}
use Rattle.param_refs.specs.declared.template.Reference.{Reference}
use Rattle.param_refs.specs.declared.scanner.Piece.{Piece}
use Rattle.param_refs.specs.declared.template.Segment.{Segment}
use Rattle.param_refs.specs.declared.template.Segment.TheVariants.{Key, Index}

-- the first byte passes a test
abbrev pub first_passes : (ℕ → Bool) → List ℕ → Bool
first_passes p [] = false
first_passes p (b ∷ bs) = p b

-- the first byte belongs to a symbol
abbrev pub starts_symbol : List ℕ → Bool
starts_symbol = first_passes is_symbol_byte

-- so many bytes at the front make up a symbol, and no more
pub record IsSymbolLength (text : List ℕ) (n : ℕ) : Type 0 where
  pub within : n ≤ length text
  pub symbol : list_all is_symbol_byte (take n text) ≡ true
  pub ends : starts_symbol (drop n text) ≡ false

pub record SymbolThen (text symbol rest : List ℕ) : Type 0 where
  pub parts : text ≡ symbol ++ rest
  pub is : is_symbol symbol ≡ true
  pub ends : starts_symbol rest ≡ false

-- after the first quote: the text, the second quote and the bracket
pub record QuotedThen (quote : ℕ) (text quoted rest : List ℕ) : Type 0 where
  pub parts : text ≡ quoted ++ quote ∷ 93 ∷ rest
  pub is : is_quoted quote quoted ≡ true

abbrev pub NoQuoted : ℕ → List ℕ → Type 0
NoQuoted quote text = (quoted rest : List ℕ) → text ≡ quoted ++ quote ∷ 93 ∷ rest → is_quoted quote quoted ≡ true → ⊥

-- the two quotes
abbrev pub IsQuote : ℕ → Type 0
IsQuote quote = (quote ≡ 39) ⊎ (quote ≡ 34)

-- the same with the first quote in front
abbrev pub NoQuotes : ℕ → List ℕ → Type 0
NoQuotes quote text = (quoted rest : List ℕ) → text ≡ quote ∷ (quoted ++ quote ∷ 93 ∷ rest) → is_quoted quote quoted ≡ true → ⊥

pub record NumberThen (text digits rest : List ℕ) : Type 0 where
  pub parts : text ≡ digits ++ 93 ∷ rest
  pub is : is_number digits ≡ true

abbrev pub NoNumber : List ℕ → Type 0
NoNumber text = (digits rest : List ℕ) → text ≡ digits ++ 93 ∷ rest → is_number digits ≡ true → ⊥

-- the segment that a piece of the text is
abbrev pub segment_of : Piece → Segment
segment_of (Piece.Key key) = Key key.now
segment_of (Piece.Index digits) = Index digits.now

-- a segment and what follows it, where a symbol has come to its end
pub record SegmentThen (text : List ℕ) (s : Segment) (rest : List ℕ) : Type 0 where
  pub front : List ℕ
  pub parts : text ≡ front ++ rest
  pub is : IsSegment front s
  pub ends : (symbol : List ℕ) → front ≡ 46 ∷ symbol → starts_symbol rest ≡ false

abbrev pub NoSegment : List ℕ → Type 0
NoSegment text = (x rest : List ℕ) (s : Segment) → text ≡ x ++ rest → IsSegment x s → ⊥

-- segments up to where no further one begins; a closing bracket after segments can only be the one that follows these
pub record SegmentsThen (text : List ℕ) (ss : List Segment) (rest : List ℕ) : Type 0 where
  pub front : List ℕ
  pub parts : text ≡ front ++ rest
  pub are : AreSegments front ss
  pub only : (x left : List ℕ) (those : List Segment) → text ≡ x ++ 41 ∷ left → AreSegments x those → (those ≡ ss) × (rest ≡ 41 ∷ left)

-- a reference at the front of a text
pub record ReferenceThen (text : List ℕ) (r : Reference) (rest : List ℕ) : Type 0 where
  pub front : List ℕ
  pub parts : text ≡ front ++ rest
  pub is : IsReference front r

-- where the first `$(` or `${` begins, or the text ends
pub record IsOpening (text : List ℕ) (n : ℕ) : Type 0 where
  pub within : n ≤ length text
  pub before : (k : ℕ) → k < n → opens (drop k text) ≡ false
  pub here : n < length text → opens (drop n text) ≡ true

-- a part at the front of a text: what follows it decides what the whole reads as
pub record PartThen (text : List ℕ) (p : Part) (rest : List ℕ) : Type 0 where
  pub shorter : length rest < length text
  pub reads : (r : Result (List Part) RefFault) → Reads rest r → Reads text (with_part p r)
