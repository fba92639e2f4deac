-- How a text is read as a pattern, over its characters, and why one is refused (POSIX, "Pattern Matching Notation"; CWL v1.2,
-- "CommandOutputBinding": `glob`).
use Rattle.std.specs.Prelude.{◌≡◌, ℕ, Bool, true, false, not, ◌&&◌, ◌||◌, ◌==◌, nat_lt, if◌then◌else◌, List, [], ◌∷◌, ◌++◌, Option, Some, None, Result, Ok, Err}
use Rattle.std.specs.List.{list_all, list_any}
use Rattle.staging.specs.declared.item.CharRange.{CharRange}
use Rattle.staging.specs.declared.item.Bracket.{Bracket}
use Rattle.staging.specs.declared.item.PatternItem.{PatternItem}
use Rattle.staging.specs.declared.item.PatternItem.TheVariants.{Literal, One, Run, OneOf}
use Rattle.staging.specs.declared.fault.GlobFault.{GlobFault}
use Rattle.staging.specs.declared.fault.GlobFault.TheVariants.{Backslash, CharacterClass, FallingRange, Absolute, ParentFolder}
use Rattle.staging.specs.declared.fault.GlobError.{GlobError}
use Rattle.staging.specs.declared.fault.GlobError.TheVariants.{Refused, OutOfMemory}

-- a leading `./` is dropped where something follows it
abbrev pub body : List ℕ → List ℕ
body (a ∷ b ∷ c ∷ text) = (if a == 46 && b == 47 then c ∷ text else a ∷ b ∷ c ∷ text)
body text = text

-- brackets

-- a hyphen and one more character begin the text
abbrev pub begins_range : List ℕ → Bool
begins_range [] = false
begins_range (d ∷ []) = false
begins_range (d ∷ high ∷ text) = d == 45

-- the members between the brackets: `x-y` is a range, and any other character stands alone
pub data Ranges : List ℕ → List CharRange → Type 0 where
  nothing : Ranges [] []
  range : {low high : ℕ} {text : List ℕ} {ranges : List CharRange} → Ranges text ranges → Ranges (low ∷ 45 ∷ high ∷ text) (record { low = low; high = high } ∷ ranges)
  single : {c : ℕ} {text : List ℕ} {ranges : List CharRange} → begins_range text ≡ false → Ranges text ranges → Ranges (c ∷ text) (record { low = c; high = c } ∷ ranges)

-- neither a `]` nor a `/`
abbrev pub is_inside : ℕ → Bool
is_inside c = not (c == 93) && not (c == 47)

-- what stands between a `[` and its `]`: one member at least, of which only the first may be a `]`, and no `/`
pub data IsBracket : List ℕ → Bracket → Type 0 where
  one_of : {first : ℕ} {members : List ℕ} {ranges : List CharRange} → (first == 33) ≡ false → (first == 47) ≡ false → list_all is_inside members ≡ true
      → Ranges (first ∷ members) ranges → IsBracket (first ∷ members) (record { negated = false; ranges = ranges })
  other_than : {first : ℕ} {members : List ℕ} {ranges : List CharRange} → (first == 47) ≡ false → list_all is_inside members ≡ true
      → Ranges (first ∷ members) ranges → IsBracket (33 ∷ first ∷ members) (record { negated = true; ranges = ranges })

-- a `]` stands before the next `/`
abbrev pub has_close : List ℕ → Bool
has_close [] = false
has_close (c ∷ text) = c == 93 || (not (c == 47) && has_close text)

-- past the first member
abbrev pub closes_later : List ℕ → Bool
closes_later [] = false
closes_later (first ∷ text) = not (first == 47) && has_close text

-- a bracket that was opened is closed in this component
abbrev pub is_closed : List ℕ → Bool
is_closed [] = false
is_closed (c ∷ text) = (if c == 33 then closes_later text else closes_later (c ∷ text))

-- items

abbrev pub is_empty : List ℕ → Bool
is_empty [] = true
is_empty (c ∷ text) = false

-- a character that stands for itself, where `text` follows it
abbrev pub is_plain : ℕ → List ℕ → Bool
is_plain c text = not (c == 42) && not (c == 63) && not (c == 91) && not (c == 47 && is_empty text)

pub data Reads : List ℕ → List PatternItem → Type 0 where
  nothing : Reads [] []
  -- a last `/` is dropped
  last_slash : Reads (47 ∷ []) []
  star : {text : List ℕ} {pattern : List PatternItem} → Reads text pattern → Reads (42 ∷ text) (Run ∷ pattern)
  question_mark : {text : List ℕ} {pattern : List PatternItem} → Reads text pattern → Reads (63 ∷ text) (One ∷ pattern)
  bracket : {inside : List ℕ} {set : Bracket} {text : List ℕ} {pattern : List PatternItem}
      → IsBracket inside set → Reads text pattern → Reads (91 ∷ (inside ++ 93 ∷ text)) (OneOf set ∷ pattern)
  unclosed : {text : List ℕ} {pattern : List PatternItem} → is_closed text ≡ false → Reads text pattern → Reads (91 ∷ text) (Literal 91 ∷ pattern)
  plain : {c : ℕ} {text : List ℕ} {pattern : List PatternItem} → is_plain c text ≡ true → Reads text pattern → Reads (c ∷ text) (Literal c ∷ pattern)

-- faults

-- after a period at the front of a component: a second one, and then the component's end
abbrev pub ends_parent : List ℕ → Bool
ends_parent [] = false
ends_parent (b ∷ []) = b == 46
ends_parent (b ∷ c ∷ text) = b == 46 && c == 47

-- `[:`
abbrev pub begins_class : List ℕ → Bool
begins_class [] = false
begins_class (b ∷ []) = false
begins_class (b ∷ c ∷ text) = b == 91 && c == 58

-- the fault that begins with this character, where `text` follows it; `front` says that a component begins here
abbrev pub fault_at : Bool → ℕ → List ℕ → Option GlobFault
fault_at front c text =
    (if c == 92 then Some Backslash else (if c == 91 && begins_class text then Some CharacterClass else (if front && (c == 46 && ends_parent text) then Some ParentFolder else None)))

abbrev pub or_else : {T : Type 0} → Option T → Option T → Option T
or_else (Some x) y = Some x
or_else None y = y

-- the leftmost fault
abbrev pub fault_from : Bool → List ℕ → Option GlobFault
fault_from front [] = None
fault_from front (c ∷ text) = or_else (fault_at front c text) (fault_from (c == 47) text)

abbrev pub begins_with_slash : List ℕ → Bool
begins_with_slash [] = false
begins_with_slash (c ∷ text) = c == 47

abbrev pub fault_of : List ℕ → Option GlobFault
fault_of text = (if begins_with_slash text then Some Absolute else fault_from true text)

abbrev pub is_falling : CharRange → Bool
is_falling r = nat_lt r.high r.low

abbrev pub has_falling : PatternItem → Bool
has_falling (OneOf set) = list_any is_falling set.ranges
has_falling _ = false

-- what a text reads as
pub data IsReading (text : List ℕ) : Result (List PatternItem) GlobFault → Type 0 where
  refused : {fault : GlobFault} → fault_of (body text) ≡ Some fault → IsReading text (Err fault)
  falling : {pattern : List PatternItem} → fault_of (body text) ≡ None → Reads (body text) pattern → list_any has_falling pattern ≡ true → IsReading text (Err FallingRange)
  accepted : {pattern : List PatternItem} → fault_of (body text) ≡ None → Reads (body text) pattern → list_any has_falling pattern ≡ false → IsReading text (Ok pattern)

-- what a refusal says of a text
abbrev pub Refuses : List ℕ → GlobError → Type 0
Refuses text (Refused fault) = IsReading text (Err fault)
Refuses text OutOfMemory = Unit {0}
