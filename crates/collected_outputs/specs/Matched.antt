-- Which names the patterns of an output match (CWL v1.2, "CommandOutputBinding": glob; "files are returned in the order of their names").
use Rattle.std.specs.Prelude.{◌≡◌, ℕ, true, false, not, List, [], ◌∷◌, ◌++◌, filter, codes, bytes_eq}
use Rattle.std.specs.Str.{chars}
use Rattle.std.specs.Map.{keys_of}
use Rattle.staging.specs.Glob.{Glob, is_folder}
use Rattle.staging.specs.declared.item.PatternItem.{PatternItem}
use Rattle.collected_outputs.specs.Listing.{Listing}

abbrev pub Name : Type 0
Name = List ℕ

-- those of the names that a pattern matches, as they stand
pub data AreThose (pattern : List PatternItem) : List Name → List Name → Type 0 where
  none : AreThose pattern [] []
  matches : (names those : List Name) (name : Name) → AreThose pattern names those → Glob true pattern (chars name) → AreThose pattern (names ++ name ∷ []) (those ++ name ∷ [])
  differs : (names those : List Name) (name : Name) → AreThose pattern names those → (Glob true pattern (chars name) → ⊥) → AreThose pattern (names ++ name ∷ []) those

-- what one pattern matches: `.` the output folder itself, and any other what was found, in the order of the names
pub data AreOf (listing : Listing) (pattern : List PatternItem) : List Name → Type 0 where
  folder : is_folder pattern ≡ true → AreOf listing pattern (codes "." ∷ [])
  inside : (names : List Name) → is_folder pattern ≡ false → AreThose pattern (keys_of listing) names → AreOf listing pattern names

-- what the patterns match, one after another
pub data AreOfAll (listing : Listing) : List (List PatternItem) → List Name → Type 0 where
  none : AreOfAll listing [] []
  one_more : (patterns : List (List PatternItem)) (names : List Name) (pattern : List PatternItem) (more : List Name) → AreOfAll listing patterns names → AreOf listing pattern more
      → AreOfAll listing (patterns ++ pattern ∷ []) (names ++ more)

-- each name once, where it stands first
abbrev pub without_repeats : List Name → List Name
without_repeats [] = []
without_repeats (name ∷ names) = name ∷ filter (λ other. not (bytes_eq name other)) (without_repeats names)

-- the names that the patterns match, each once
pub record AreMatched (listing : Listing) (patterns : List (List PatternItem)) (matched : List Name) : Type 0 where
  pub names : List Name
  pub of_all : AreOfAll listing patterns names
  pub once : matched ≡ without_repeats names
