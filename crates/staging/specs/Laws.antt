-- What holds of all patterns and names, in the words of the standard.
use Rattle.std.specs.Prelude.{◌≡◌, ℕ, ◌<◌, ◌^◌, length, ◌==◌, Bool, true, false, List, ◌∷◌, map, count_by, Contains, ◌⊎◌, Result}
use Rattle.std.specs.List.{list_any}
use Rattle.cwl_value.specs.declared.value.Value.{Value}
use Rattle.staging.specs.Glob.{Glob}
use Rattle.staging.specs.Groups.{groups_of_fields}
use Rattle.staging.specs.Plan.{IsPlan, folder_path, move_to}
use Rattle.staging.specs.declared.plan.Move.{Move}
use Rattle.staging.specs.declared.plan.StagePlan.{StagePlan}
use Rattle.staging.specs.Reading.{IsReading}
use Rattle.staging.specs.declared.fault.GlobFault.{GlobFault}
use Rattle.staging.specs.Placing.{IsFolder, ArePlaced}
use Rattle.staging.specs.declared.group.Member.{Member}
use Rattle.staging.specs.declared.group.Placed.{Placed}
use Rattle.staging.specs.declared.item.PatternItem.{PatternItem}
use Rattle.staging.specs.declared.item.PatternItem.TheVariants.{Literal}

-- a pattern without `*`, `?` and brackets matches its own text
abbrev pub TextMatchesItself : Type 0
TextMatchesItself = (text : List ℕ) → Glob true (map Literal text) text

-- and no other name
abbrev pub TextMatchesNoOther : Type 0
TextMatchesNoOther = (text name : List ℕ) → Glob true (map Literal text) name → name ≡ text

abbrev pub is_slash : PatternItem → Bool
is_slash (Literal c) = c == 47
is_slash _ = false

-- only a `/` of the pattern matches a `/`: a name has as many components as the patterns that match it
abbrev pub SameComponents : Type 0
SameComponents = (pattern : List PatternItem) (name : List ℕ) → Glob true pattern name → count_by is_slash pattern ≡ count_by (λ c. c == 47) name

-- a name that begins with a period is matched only by a pattern that begins with one
abbrev pub HiddenByPeriodAlone : Type 0
HiddenByPeriodAlone = (pattern : List PatternItem) (name : List ℕ) → Glob true pattern (46 ∷ name) → (rest : List PatternItem) × (pattern ≡ Literal 46 ∷ rest)

-- each text reads as a pattern, or has a fault
abbrev pub EachTextIsRead : Type 0
EachTextIsRead = (text : List ℕ) → (read : Result (List PatternItem) GlobFault) × IsReading text read

-- each name is matched, or it isn't
abbrev pub EachNameIsTold : Type 0
EachNameIsTold = (pattern : List PatternItem) (name : List ℕ) → Glob true pattern name ⊎ (Glob true pattern name → ⊥)

-- the files of a group have different names
abbrev pub NamesDiffer : List Member → Type 0
NamesDiffer group = (m n : Member) → Contains group m → Contains group n → m.name ≡ n.name → m ≡ n

-- a file of a group, in its folder
pub record StandsIn (placed : List Placed) (p : Placed) (m : Member) : Type 0 where
  pub placed_there : Contains placed p
  pub member : Contains p.members m

-- in one folder one name is that of one file: files of different sources are never put in one place
abbrev pub SourcesNeverMeet : Type 0
SourcesNeverMeet = (holds_others : Bool) (groups : List (List Member)) (placed : List Placed) → ArePlaced holds_others groups placed → ((p : Placed) → Contains placed p → NamesDiffer p.members)
    → (p q : Placed) (m n : Member) → StandsIn placed p m → StandsIn placed q n → p.folder ≡ q.folder → m.name ≡ n.name → m.source ≡ n.source

-- each group has a folder, in their order
abbrev pub EachGroupIsPlaced : Type 0
EachGroupIsPlaced = (holds_others : Bool) (groups : List (List Member)) (placed : List Placed) → ArePlaced holds_others groups placed → map (λ (p : Placed). p.members) placed ≡ groups

-- and groups with the same places and names share one
abbrev pub OneGroupOneFolder : Type 0
OneGroupOneFolder = (holds_others : Bool) (groups : List (List Member)) (placed : List Placed) → ArePlaced holds_others groups placed → (p q : Placed) → Contains placed p → Contains placed q → p.members ≡ q.members → p.folder ≡ q.folder

abbrev pub has_slash : List ℕ → Bool
has_slash name = list_any (λ c. c == 47) name

-- the files of a group have different names, none with a slash
pub record AreNamed (group : List Member) : Type 0 where
  pub differ : NamesDiffer group
  pub plain : (m : Member) → Contains group m → has_slash m.name ≡ false

-- what is copied from different places goes to different places, where the names of each group are names of files that differ
abbrev pub TargetsNeverMeet : Type 0
TargetsNeverMeet = (holds_others : Bool) (dir : List ℕ) (values : List (List ℕ × Value)) (plan : StagePlan) → IsPlan holds_others dir values plan → length (groups_of_fields values) < 2 ^ 63
    → ((group : List Member) → Contains (groups_of_fields values) group → AreNamed group) → (x y : Move) → Contains plan.moves x → Contains plan.moves y → x.target ≡ y.target → x.source ≡ y.source

-- every file of every group is copied to its group's folder
abbrev pub EachFileIsCopied : Type 0
EachFileIsCopied = (holds_others : Bool) (dir : List ℕ) (values : List (List ℕ × Value)) (plan : StagePlan) (is : IsPlan holds_others dir values plan) (group : List Member) (m : Member)
    → Contains (groups_of_fields values) group → Contains group m → Contains plan.moves (move_to (folder_path holds_others dir (is.number group)) m)

-- a group finds a folder, whatever was placed before it
abbrev pub EachGroupFindsFolder : Type 0
EachGroupFindsFolder = (holds_others : Bool) (placed : List Placed) (group : List Member) → (k : ℕ) × IsFolder holds_others placed group k

-- all values can be copied, to be staged and to be delivered, into every folder
abbrev pub EachValueHasPlan : Type 0
EachValueHasPlan = (holds_others : Bool) (dir : List ℕ) (values : List (List ℕ × Value)) → (plan : StagePlan) × IsPlan holds_others dir values plan
