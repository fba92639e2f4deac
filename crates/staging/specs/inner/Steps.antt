-- What the matcher's parts answer. No public contract cites this.
use Rattle.std.specs.Prelude.{◌≡◌, ℕ, ◌+◌, ◌≤◌, ◌<◌, ◌==◌, true, false, List, [], ◌∷◌, length, drop, Option, Some, None}
use Rattle.std.specs.Str.{chars}
use Rattle.staging.specs.Glob.{Glob, takes, may_take, may_begin}
use Rattle.staging.specs.declared.item.PatternItem.{PatternItem}
use Rattle.staging.specs.declared.item.PatternItem.TheVariants.{Run}
use Rattle.staging.specs.declared.matching.Place.{Place}
use Rattle.staging.specs.declared.matching.Step.{Step}
use Rattle.staging.specs.declared.matching.Step.TheVariants.{Ended, Stuck, Taken, Starred}

-- the pattern's rest at a place, and the name's
abbrev pub items_at : List PatternItem → Place → List PatternItem
items_at items here = drop here.at items

abbrev pub name_at : Place → List ℕ
name_at here = chars here.rest.now

abbrev pub MatchesAt : List PatternItem → Place → Type 0
MatchesAt items here = Glob here.front (items_at items here) (name_at here)

-- an item takes the next character
pub record IsTaken (items : List PatternItem) (here next : Place) : Type 0 where
  pub own : PatternItem
  pub character : ℕ
  pub on : next.at ≡ here.at + 1
  pub within : here.at < length items
  pub shorter : length next.rest.now ≤ length here.rest.now
  pub items_are : items_at items here ≡ own ∷ items_at items next
  pub name_is : name_at here ≡ character ∷ name_at next
  pub taken : takes here.front own character ≡ true
  pub front_is : next.front ≡ (character == 47)

-- a `*` begins
pub record IsStarred (items : List PatternItem) (here next : Place) : Type 0 where
  pub on : next.at ≡ here.at + 1
  pub within : here.at < length items
  pub same_rest : next.rest.now ≡ here.rest.now
  pub items_are : items_at items here ≡ Run ∷ items_at items next
  pub begins : may_begin here.front (name_at here) ≡ true
  pub front_is : next.front ≡ here.front

abbrev pub IsStep : List PatternItem → Place → Step → Type 0
IsStep items here Ended = (items_at items here ≡ []) × (name_at here ≡ [])
IsStep items here Stuck = MatchesAt items here → ⊥
IsStep items here (Taken next) = IsTaken items here next
IsStep items here (Starred next) = IsStarred items here next

-- a `*` takes one character more
pub record IsOneMore (star next : Place) : Type 0 where
  pub character : ℕ
  pub same_at : next.at ≡ star.at
  pub shorter : length next.rest.now < length star.rest.now
  pub name_is : name_at star ≡ character ∷ name_at next
  pub taken : may_take star.front character ≡ true
  pub front_is : next.front ≡ false

-- there is a `*` that can
abbrev pub TakesOneMore : Option Place → Option Place → Type 0
TakesOneMore None None = Unit {0}
TakesOneMore None (Some next) = ⊥
TakesOneMore (Some star) None = (c : ℕ) (name : List ℕ) → name_at star ≡ c ∷ name → may_take star.front c ≡ true → ⊥
TakesOneMore (Some star) (Some next) = IsOneMore star next
