-- What the definitions come to, in the words of the standard (CWL v1.2, Command Line Tool, "Output binding", "CommandOutputBinding").
use Rattle.std.specs.Prelude.{◌≡◌, ◌≢◌, ◌↔◌, ◌==◌, ◌&&◌, ◌||◌, ℕ, Bool, true, false, not, List, Option, codes, All, AllPairs, Contains, Some, is_some, Ok, bytes_eq}
use Rattle.std.specs.List.{list_any}
use Rattle.std.specs.List.Sorted.{IsStrictlySortedBy}
use Rattle.std.specs.Map.{keys_of, values_of}
use Rattle.std.specs.Option.{option_map_or}
use Rattle.std.specs.Str.{chars}
use Rattle.plain_data.specs.ByName.{name_cmp, value_at}
use Rattle.cwl_process.specs.declared.tool.OutputBinding.{OutputBinding}
use Rattle.cwl_process.specs.declared.tool.ToolOutput.{ToolOutput}
use Rattle.cwl_value.specs.declared.place.Place.{Place}
use Rattle.cwl_value.specs.declared.place.Place.TheVariants.{Nowhere, Url, Path, Made}
use Rattle.cwl_value.specs.declared.value.Value.{Value}
use Rattle.staging.specs.Glob.{Glob, is_folder}
use Rattle.staging.specs.declared.found.Found.{Found}
use Rattle.staging.specs.declared.item.PatternItem.{PatternItem}
use Rattle.collected_outputs.specs.Checked.{is_typed, all_found}
use Rattle.collected_outputs.specs.Collected.{Collected, IsCollected}
use Rattle.collected_outputs.specs.HeadsWanted.{AreHeadsWanted}
use Rattle.collected_outputs.specs.Listing.{Listing, listing_of}
use Rattle.collected_outputs.specs.Matched.{Name, AreOf, AreMatched}
use Rattle.collected_outputs.specs.Object.{Named}
use Rattle.collected_outputs.specs.Outputs.{Left, has_object}
use Rattle.collected_outputs.specs.Throughout.{all_pass, all_places, has_no_contents}
use Rattle.collected_outputs.specs.Values.{checksum_of}
use Rattle.cwl_value.specs.declared.value.TheConstants.{MOST_CONTENTS}
use Rattle.collected_outputs.specs.declared.listing.Entry.{Entry}
use Rattle.collected_outputs.specs.declared.object.TheConstants.{MOST_OBJECT}

-- a job that has ended has outputs or a fault
abbrev pub EveryFolderHasOutputsOrAFault : Type 0
EveryFolderHasOutputsOrAFault = (left : Left) (outputs : List (Name × ToolOutput)) → (collected : Collected) × IsCollected left outputs collected

-- and the files are known whose first bytes are wanted before
abbrev pub SomeHeadsAreWanted : Type 0
SomeHeadsAreWanted = (listing : Listing) (inputs : Named) (outputs : List (Name × ToolOutput)) → (wanted : List Name) × AreHeadsWanted listing inputs outputs wanted

-- Of each output that is collected, by whatever way: patterns, a stream, `outputEval` or `cwl.output.json`.

-- the value of each output passes
abbrev pub OfEachOutput : (Left → Value → Bool) → Type 0
OfEachOutput passes = (left : Left) (outputs : List (Name × ToolOutput)) (values : Named) → IsCollected left outputs (Ok values) → All (λ v. passes left v ≡ true) (values_of values)

-- each File in it is a file that stands in the job's folder, and each Directory is a folder there
abbrev pub EachFileWasFound : Type 0
EachFileWasFound = OfEachOutput (λ left. all_found left.listing)

-- a name in the job's folder
abbrev pub is_name : Place → Bool
is_name Nowhere = false
is_name (Url name) = true
is_name (Path path) = false
is_name (Made job name) = false

-- each place in it is a name in the job's folder: none is the host's path, and none is of a file that a job made
abbrev pub EachPlaceIsAName : Type 0
EachPlaceIsAName = OfEachOutput (λ left. all_places is_name)

-- no File in it has contents
abbrev pub ContentsAreDropped : Type 0
ContentsAreDropped = OfEachOutput (λ left. has_no_contents)

-- a file of that name, size and sum
abbrev pub is_entry : Name → Option ℕ → Option Name → Name × Entry → Bool
is_entry name size checksum e =
    bytes_eq name e.0 && (not e.1.is_dir && (option_map_or (λ n. n == e.1.size) size false && option_map_or (bytes_eq (checksum_of e.1.sum)) checksum false))

-- such a file was found under the name of the place
abbrev pub is_scanned : Listing → Option ℕ → Option Name → Place → Bool
is_scanned listing size checksum Nowhere = false
is_scanned listing size checksum (Url name) = list_any (is_entry name size checksum) listing
is_scanned listing size checksum (Path path) = false
is_scanned listing size checksum (Made job name) = false

-- each File has the size and the checksum that the scan found at its name
abbrev pub all_scanned : Listing → Value → Bool
all_scanned listing = all_pass (λ f. is_scanned listing f.size f.checksum f.place) (λ d. true)

-- the output has an `outputEval`
abbrev pub evaluates : Name × ToolOutput → Bool
evaluates output = option_map_or (λ (binding : OutputBinding). is_some binding.output_eval) output.1.binding false

-- sizes and checksums are those that were found, also where `cwl.output.json` says others. Of a tool with an `outputEval` this is not said, since
-- that may take a File from the inputs
abbrev pub SizesAreThoseFound : Type 0
SizesAreThoseFound = (left : Left) (outputs : List (Name × ToolOutput)) (values : Named) → IsCollected left outputs (Ok values) → (has_object left.listing || not (list_any evaluates outputs)) ≡ true
    → All (λ v. all_scanned left.listing v ≡ true) (values_of values)

-- the value is of an output that the tool declares under its name, and of that output's type
pub record IsDeclared (outputs : List (Name × ToolOutput)) (id : Name) (v : Value) : Type 0 where
  pub output : ToolOutput
  pub one : Contains outputs (id, output)
  pub typed : is_typed output.kind v ≡ true

pub record AreDeclared (outputs : List (Name × ToolOutput)) (values : Named) : Type 0 where
  pub each : (id : Name) (v : Value) → value_at id values ≡ Some v → IsDeclared outputs id v
  pub all : (output : Name × ToolOutput) → Contains outputs output → is_some (value_at output.0 values) ≡ true

-- the outputs are those that the tool declares, and no others: each has a value, which may be null, and that is of its type
abbrev pub OutputsAreThoseDeclared : Type 0
OutputsAreThoseDeclared = (left : Left) (outputs : List (Name × ToolOutput)) (values : Named) → IsCollected left outputs (Ok values) → AreDeclared outputs values

-- Of the names that patterns match (CWL v1.2, "CommandOutputBinding": glob).

-- the pattern matches the name: `.` is the folder itself, and any other name is one that was found there
pub data MatchesThere (listing : Listing) (pattern : List PatternItem) : Name → Type 0 where
  folder : is_folder pattern ≡ true → MatchesThere listing pattern (codes ".")
  inside : (name : Name) → is_folder pattern ≡ false → Contains (keys_of listing) name → Glob true pattern (chars name) → MatchesThere listing pattern name

-- one of the patterns does
pub record SomeMatches (listing : Listing) (patterns : List (List PatternItem)) (name : Name) : Type 0 where
  pub pattern : List PatternItem
  pub one : Contains patterns pattern
  pub matches : MatchesThere listing pattern name

pub record AreExactly (listing : Listing) (patterns : List (List PatternItem)) (names : List Name) : Type 0 where
  pub members : (name : Name) → Contains names name ↔ SomeMatches listing patterns name
  pub once : AllPairs (λ a b. a ≢ b) names

-- they are exactly the names that one of the patterns matches, each once
abbrev pub NamesAreThoseMatched : Type 0
NamesAreThoseMatched = (listing : Listing) (patterns : List (List PatternItem)) (names : List Name) → AreMatched listing patterns names → AreExactly listing patterns names

-- and those of one pattern are in the order of their bytes, in whatever order the folder was read
abbrev pub NamesAreInOrder : Type 0
NamesAreInOrder = (found : List Found) (pattern : List PatternItem) (names : List Name) → AreOf (listing_of found) pattern names → IsStrictlySortedBy name_cmp names

-- the limits of what is read of a job's folder, in bytes (`cwl.output.json`: own; contents: CWL v1.2, `loadContents`, "64 KiB")
abbrev pub FilesReadAreLimited : Type 0
FilesReadAreLimited = (MOST_OBJECT ≡ 1048576) × (MOST_CONTENTS ≡ 65536)
