-- What a text reads as, computed from its front. This is the one reading of `Grammar.antt`, as `EachTextHasItsReading` of `Laws.antt`
-- says, so that another definition may ask what a text reads as.
use Rattle.std.specs.Prelude.{ℕ, zero, suc, Bool, not, ◌||◌, ◌==◌, if◌then◌else◌, List, [], ◌∷◌, length, Option, Some, None, option_map, option_and_then, Result, Ok, Err}
use Rattle.std.specs.Char.{is_ascii_digit}
use Rattle.std.specs.Option.{option_map_or}
use Rattle.param_refs.specs.Grammar.{is_symbol_byte, is_symbol, is_number, opens, is_escaped, with_part}
use Rattle.param_refs.specs.declared.fault.RefFault.{RefFault}
use Rattle.param_refs.specs.declared.fault.RefFault.TheVariants.{NotAReference, BackslashOut}
use Rattle.param_refs.specs.declared.template.Part.{Part}
use Rattle.param_refs.specs.declared.template.Part.TheVariants.{Plain, Referred}
use Rattle.param_refs.specs.declared.template.Reference.{Reference}
use Rattle.param_refs.specs.declared.template.Segment.{Segment}
use Rattle.param_refs.specs.declared.template.Segment.TheVariants.{Key, Index}

-- something at the front of a text, and what follows it
abbrev pub Front : Type 0 → Type 0
Front T = Option (T × List ℕ)

-- the bytes at the front that pass a test
abbrev pub run : (ℕ → Bool) → List ℕ → List ℕ
run p [] = []
run p (b ∷ t) = if p b then b ∷ run p t else []

-- what follows them
abbrev pub past : (ℕ → Bool) → List ℕ → List ℕ
past p [] = []
past p (b ∷ t) = if p b then past p t else b ∷ t

-- what follows one byte
abbrev pub after : ℕ → List ℕ → Option (List ℕ)
after c [] = None
after c (b ∷ t) = if b == c then Some t else None

abbrev pub symbol_front : List ℕ → Front (List ℕ)
symbol_front t = if is_symbol (run is_symbol_byte t) then Some (run is_symbol_byte t, past is_symbol_byte t) else None

-- a segment, where its closing bracket is there
abbrev pub closed : Segment → Option (List ℕ) → Front Segment
closed s rest = option_map (λ t. (s, t)) rest

abbrev pub may_be_quoted : ℕ → ℕ → Bool
may_be_quoted quote b = not (b == quote || b == 92)

-- after the first quote
abbrev pub quoted_front : ℕ → List ℕ → Front Segment
quoted_front quote t = closed (Key (run (may_be_quoted quote) t)) (option_and_then (after 93) (after quote (past (may_be_quoted quote) t)))

abbrev pub number_front : List ℕ → Front Segment
number_front t = if is_number (run is_ascii_digit t) then closed (Index (run is_ascii_digit t)) (after 93 (past is_ascii_digit t)) else None

-- after a bracket
abbrev pub bracket_front : List ℕ → Front Segment
bracket_front [] = None
bracket_front (b ∷ t) = if b == 39 then quoted_front 39 t else (if b == 34 then quoted_front 34 t else number_front (b ∷ t))

abbrev pub segment_front : List ℕ → Front Segment
segment_front [] = None
segment_front (b ∷ t) = if b == 46 then option_map (λ f. (Key f.0, f.1)) (symbol_front t) else (if b == 91 then bracket_front t else None)

-- all segments, of which there are at most n
abbrev pub segments_front : ℕ → List ℕ → List Segment × List ℕ
segments_front zero t = ([], t)
segments_front (suc n) t = option_map_or (λ f. (f.0 ∷ (segments_front n f.1).0, (segments_front n f.1).1)) (segment_front t) ([], t)

abbrev pub closed_reference : List ℕ → List Segment × List ℕ → Front Reference
closed_reference symbol found = option_map (λ t. (record { symbol = symbol; segments = found.0 }, t)) (after 41 found.1)

-- after `$(`
abbrev pub reference_front : List ℕ → Front Reference
reference_front t = option_and_then (λ s. closed_reference s.0 (segments_front (length s.1) s.1)) (symbol_front t)

-- the bytes up to the first `$(` or `${`
abbrev pub plain_front : List ℕ → List ℕ
plain_front [] = []
plain_front (b ∷ t) = if opens (b ∷ t) then [] else b ∷ plain_front t

-- what follows them
abbrev pub plain_past : List ℕ → List ℕ
plain_past [] = []
plain_past (b ∷ t) = if opens (b ∷ t) then b ∷ t else plain_past t

-- a plain part up to the next opening, or a reference
abbrev pub part_front : List ℕ → Front Part
part_front t = if opens t then option_map (λ f. (Referred f.0, f.1)) (option_and_then reference_front (option_and_then (after 40) (after 36 t))) else Some (Plain (plain_front t), plain_past t)

-- all parts, of which there are at most n
abbrev pub parts_front : ℕ → List ℕ → Result (List Part) RefFault
parts_front n [] = Ok []
parts_front zero (b ∷ t) = Err NotAReference
parts_front (suc n) (b ∷ t) = option_map_or (λ f. with_part f.0 (parts_front n f.1)) (part_front (b ∷ t)) (Err NotAReference)

-- the parts that the text has, or its fault
unfoldable pub parsed : List ℕ → Result (List Part) RefFault
parsed text = if is_escaped text then Err BackslashOut else parts_front (length text) text
