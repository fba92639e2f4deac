-- What the reader's parts find. No public contract cites this.
use Rattle.std.specs.Prelude.{◌≡◌, ℕ, Bool, true, false, not, ◌&&◌, ◌||◌, ◌==◌, if◌then◌else◌, List, [], ◌∷◌, ◌++◌, take}
use Rattle.std.specs.List.{list_all}
use Rattle.std.specs.Str.{chars}
use Rattle.staging.specs.Reading.{Reads, Ranges, IsBracket, is_inside, is_closed}
use Rattle.staging.specs.declared.item.CharRange.{CharRange}
use Rattle.staging.specs.declared.item.Bracket.{Bracket}
use Rattle.staging.specs.declared.item.PatternItem.{PatternItem}
use Rattle.staging.specs.declared.item.PatternItem.TheVariants.{Literal, One, Run}
use Rattle.staging.specs.declared.bracket.Inside.{Inside}

abbrev pub begins_with : ℕ → List ℕ → Bool
begins_with d [] = false
begins_with d (c ∷ text) = c == d

-- the characters that are left between the brackets
abbrev pub inside_of : Inside → List ℕ
inside_of inside = take inside.left (chars inside.text.now)

-- an item at the front: what follows it decides the rest
abbrev pub ItemThen : List ℕ → PatternItem → List ℕ → Type 0
ItemThen text i rest = (pattern : List PatternItem) → Reads rest pattern → Reads text (i ∷ pattern)

abbrev pub RangeThen : List ℕ → CharRange → List ℕ → Type 0
RangeThen text range rest = (ranges : List CharRange) → Ranges rest ranges → Ranges text (range ∷ ranges)

-- the next `]` follows so many characters
pub record ClosesAt (text : List ℕ) (n : ℕ) (rest : List ℕ) : Type 0 where
  pub parts : text ≡ take n text ++ 93 ∷ rest
  pub inside : list_all is_inside (take n text) ≡ true

-- a first member, the others, and the `]`
pub record MembersThen (text : List ℕ) (ranges : List CharRange) (rest : List ℕ) : Type 0 where
  pub first : ℕ
  pub others : List ℕ
  pub parts : text ≡ first ∷ (others ++ 93 ∷ rest)
  pub no_slash : (first == 47) ≡ false
  pub inside : list_all is_inside others ≡ true
  pub are : Ranges (first ∷ others) ranges

pub record BracketThen (text : List ℕ) (bracket : Bracket) (rest : List ℕ) : Type 0 where
  pub inside : List ℕ
  pub parts : text ≡ inside ++ 93 ∷ rest
  pub is : IsBracket inside bracket

abbrev pub single_item : ℕ → PatternItem
single_item c = (if c == 42 then Run else (if c == 63 then One else Literal c))

-- no bracket of this component is closed
abbrev pub none_closed : List ℕ → Bool
none_closed [] = true
none_closed (c ∷ text) = c == 47 || (not (c == 91 && is_closed text) && none_closed text)
