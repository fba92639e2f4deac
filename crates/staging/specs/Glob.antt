-- Which names a pattern matches (POSIX, Shell Command Language, "Pattern Matching Notation", with slashes and leading periods as for
-- file names), over the characters of the name.
use Rattle.std.specs.Prelude.{◌≡◌, ℕ, Bool, true, false, not, ◌&&◌, ◌==◌, nat_le, if◌then◌else◌, List, [], ◌∷◌}
use Rattle.std.specs.List.{list_any}
use Rattle.staging.specs.declared.item.CharRange.{CharRange}
use Rattle.staging.specs.declared.item.Bracket.{Bracket}
use Rattle.staging.specs.declared.item.PatternItem.{PatternItem}
use Rattle.staging.specs.declared.item.PatternItem.TheVariants.{Literal, One, Run, OneOf}

abbrev pub covers : ℕ → CharRange → Bool
covers c range = nat_le range.low c && nat_le c range.high

abbrev pub is_member : Bracket → ℕ → Bool
is_member bracket c = (if bracket.negated then not (list_any (covers c) bracket.ranges) else list_any (covers c) bracket.ranges)

-- what `*`, `?` and brackets may take: neither a `/` nor a period that begins a component
abbrev pub may_take : Bool → ℕ → Bool
may_take front c = not (c == 47) && not (front && c == 46)

-- what an item takes as its one character; `front` says that a component begins with it
abbrev pub takes : Bool → PatternItem → ℕ → Bool
takes front (Literal d) c = d == c
takes front One c = may_take front c
takes front Run c = false
takes front (OneOf bracket) c = may_take front c && is_member bracket c

-- no period stands at the front of a component
abbrev pub may_begin : Bool → List ℕ → Bool
may_begin front [] = true
may_begin front (c ∷ name) = not (front && c == 46)

-- the pattern matches the name; `front` says that a component begins here
pub data Glob : Bool → List PatternItem → List ℕ → Type 0 where
  end : {front : Bool} → Glob front [] []
  taken : {front : Bool} {i : PatternItem} {c : ℕ} {pattern : List PatternItem} {name : List ℕ}
      → takes front i c ≡ true → Glob (c == 47) pattern name → Glob front (i ∷ pattern) (c ∷ name)
  -- `*` takes nothing, but not right before a period that begins a component
  none : {front : Bool} {pattern : List PatternItem} {name : List ℕ}
      → may_begin front name ≡ true → Glob front pattern name → Glob front (Run ∷ pattern) name
  -- `*` takes one character and stays
  more : {front : Bool} {c : ℕ} {pattern : List PatternItem} {name : List ℕ}
      → may_take front c ≡ true → Glob false (Run ∷ pattern) name → Glob front (Run ∷ pattern) (c ∷ name)

abbrev pub is_run : PatternItem → Bool
is_run Run = true
is_run _ = false

-- `.`, which stands for the output folder itself
abbrev pub is_folder : List PatternItem → Bool
is_folder (Literal c ∷ []) = c == 46
is_folder _ = false
