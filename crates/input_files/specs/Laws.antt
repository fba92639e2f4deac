-- What follows from the definitions: what is asked of a value without Files and Directories, which paths are measured, what a measured value
-- says, and what is read of files.
use Rattle.std.specs.Prelude.{◌≡◌, ◌≢◌, ◌↔◌, ◌≤◌, ℕ, Bool, true, false, not, ◌&&◌, ◌||◌, List, [], map, All, AllPairs, Contains, Some, Ok, unwrap_or, bytes_eq}
use Rattle.std.specs.List.{list_any}
use Rattle.std.specs.Option.{option_map_or}
use Rattle.plain_data.specs.ByName.{names, value_at}
use Rattle.cwl_process.specs.declared.tool.SecondaryFile.{SecondaryFile}
use Rattle.cwl_value.specs.Fileless.{holds_files, some_true}
use Rattle.cwl_value.specs.declared.place.Place.{Place}
use Rattle.cwl_value.specs.declared.place.Place.TheVariants as place
use Rattle.cwl_value.specs.declared.value.Value.{Value, fold-Value}
use Rattle.cwl_value.specs.declared.value.Value as value
use Rattle.cwl_value.specs.declared.value.Value.TheOpen.{Value-F, FileVal-F, DirVal-F}
use Rattle.cwl_value.specs.declared.value.FileVal.{FileVal, out-FileVal}
use Rattle.staging.specs.declared.measure.Measure.TheVariants as measure
use Rattle.input_files.specs.Beside.{lacks_required, looked_for}
use Rattle.input_files.specs.Contents.{Heads, asked_by, loads, head_at, is_text, file_loaded, heads_wanted, with_contents}
use Rattle.input_files.specs.Given.{Name, Fields, NamedInput, value_under, files_in, with_files}
use Rattle.input_files.specs.Inputs.{with_measures}
use Rattle.input_files.specs.Listing.{checksum_of}
use Rattle.input_files.specs.Measured.{Measures, is_there, as_measured}
use Rattle.input_files.specs.Paths.{Paths, paths_of, input_paths}
use Rattle.input_files.specs.Present.{all_true, value_there, is_made, is_present}
use Rattle.cwl_value.specs.declared.value.TheConstants.{MOST_CONTENTS}

-- Nothing is asked of a value without Files and Directories, and it stays as it is.

pub record IsUntouched (measures : Measures) (declared : List SecondaryFile) (v : Value) : Type 0 where
  pub there : is_there measures v ≡ true
  pub has_all : lacks_required measures declared v ≡ false
  pub stays : with_measures measures declared v ≡ v
  pub unmeasured : paths_of v ≡ []

abbrev pub UntouchedWithoutFiles : Type 0
UntouchedWithoutFiles = (measures : Measures) (declared : List SecondaryFile) (v : Value) → holds_files v ≡ false → IsUntouched measures declared v

-- Which paths are measured.

-- the place is this path
abbrev pub is_at : Name → Place → Bool
is_at path place.Nowhere = false
is_at path (place.Url location) = false
is_at path (place.Path other) = bytes_eq path other
is_at path (place.Made job name) = false

-- where this is known of its Files and Directories, and of what is in it
abbrev pub holds_at : Value-F Bool Bool Bool → Bool
holds_at (Value-F.FileVal file) = file
holds_at (Value-F.DirVal dir) = dir
holds_at (Value-F.List flags) = some_true flags
holds_at (Value-F.Fields flags) = some_true (map (λ e. e.1) flags)
holds_at _ = false

abbrev pub dir_holds_path : Name → DirVal-F Bool Bool Bool → Bool
dir_holds_path path d = is_at path d.place || option_map_or some_true d.listing false

abbrev pub file_holds_path : Name → FileVal-F Bool Bool Bool → Bool
file_holds_path path f = is_at path f.place || some_true f.secondary

-- a File or Directory of the value, at any depth, is at the path
abbrev pub holds_path : Name → Value → Bool
holds_path path = fold-Value Bool Bool Bool holds_at (dir_holds_path path) (file_holds_path path)

-- why a path is measured: a value of the input object or a default is there, or an input looks there for a file that a File lacks
pub data Needs (inputs : List NamedInput) (given : Fields) (path : Name) : Type 0 where
  of_given : (field : Name × Value) → Contains given field → holds_path path field.1 ≡ true → Needs inputs given path
  of_default : (input : NamedInput) (v : Value) → Contains inputs input → input.1.default ≡ Some v → holds_path path v ≡ true → Needs inputs given path
  beside_given : (input : NamedInput) → Contains inputs input → Contains (looked_for input.1.secondary_files (value_under input.0 given)) path → Needs inputs given path
  beside_default : (input : NamedInput) (v : Value) → Contains inputs input → input.1.default ≡ Some v → Contains (looked_for input.1.secondary_files v) path → Needs inputs given path

pub record AreMeasured (inputs : List NamedInput) (given : Fields) (paths : Paths) : Type 0 where
  pub members : (path : Name) → Contains paths path ↔ Needs inputs given path
  pub once : AllPairs (λ a b. a ≢ b) paths

-- exactly those paths are measured, each once
abbrev pub PathsAreThoseNeeded : Type 0
PathsAreThoseNeeded = (inputs : List NamedInput) (given : Fields) → AreMeasured inputs given (input_paths inputs given)

-- What a value says once it was measured.

abbrev pub unmade_file : FileVal-F Bool Bool Bool → Bool
unmade_file f = not (is_made f.place) && all_true f.secondary

abbrev pub unmade_dir : DirVal-F Bool Bool Bool → Bool
unmade_dir d = not (is_made d.place) && option_map_or all_true d.listing true

-- no job made a File or Directory of the value
abbrev pub is_unmade : Value → Bool
is_unmade = fold-Value Bool Bool Bool value_there unmade_dir unmade_file

-- whether all of a value is there is seen of the measured value alone, so no step needs the measures of what is handed to it
abbrev pub MeasuredSaysWhatIsThere : Type 0
MeasuredSaysWhatIsThere = (measures : Measures) (v : Value) → is_unmade v ≡ true → is_present (as_measured measures v) ≡ is_there measures v

-- the File is as it was given, but for the size in bytes and the sum of the file that stands at its path, and the files beside it, which are measured too
pub record IsAsFound (measures : Measures) (bytes : ℕ) (sum : Name) (given measured : FileVal) : Type 0 where
  pub place : (out-FileVal measured).place ≡ (out-FileVal given).place
  pub basename : (out-FileVal measured).basename ≡ (out-FileVal given).basename
  pub contents : (out-FileVal measured).contents ≡ (out-FileVal given).contents
  pub size : (out-FileVal measured).size ≡ Some bytes
  pub checksum : (out-FileVal measured).checksum ≡ Some (checksum_of sum)
  pub secondary : (out-FileVal measured).secondary ≡ map (as_measured measures) (out-FileVal given).secondary

abbrev pub FilesAreAsFound : Type 0
FilesAreAsFound = (measures : Measures) (f : FileVal) (path sum : Name) (bytes : ℕ) → (out-FileVal f).place ≡ place.Path path → value_at path measures ≡ Some (measure.File bytes sum)
    → (file : FileVal) × (as_measured measures (value.FileVal f) ≡ value.FileVal file) × IsAsFound measures bytes sum f file

-- What is read of files.

-- the input of that name asks for contents
abbrev pub asks : List NamedInput → Name → Bool
asks inputs name = loads (asked_by inputs) name

-- the File's size, where it has one, is at most 65,536 bytes, and what was read of it, if anything, is text
pub record IsShortText (heads : Heads) (f : FileVal) : Type 0 where
  pub short : unwrap_or (out-FileVal f).size 0 ≤ MOST_CONTENTS
  pub text : is_text (head_at heads (out-FileVal f).place) ≡ true

-- the staged value and the one with contents
pub record IsRead (heads : Heads) (asked : Bool) (staged read : Value) : Type 0 where
  pub not_asked : asked ≡ false → read ≡ staged
  pub loaded : asked ≡ true → read ≡ with_files (file_loaded heads) staged
  pub files : asked ≡ true → All (IsShortText heads) (files_in staged)

pub record AreRead (inputs : List NamedInput) (heads : Heads) (staged read : Fields) : Type 0 where
  pub same_names : names read ≡ names staged
  pub each : (name : Name) (v : Value) → Contains staged (name, v) → (w : Value) × Contains read (name, w) × IsRead heads (asks inputs name) v w

-- what was read stands in the values of the inputs that ask for contents, and every other value stays
abbrev pub ContentsAreThoseAsked : Type 0
ContentsAreThoseAsked = (inputs : List NamedInput) (staged read : Fields) (heads : Heads) → with_contents inputs staged heads ≡ Ok read → AreRead inputs heads staged read

-- where no input asks for contents, no file is read and all values stay
abbrev pub NothingIsReadUnasked : Type 0
NothingIsReadUnasked = (inputs : List NamedInput) (staged : Fields) (heads : Heads) → list_any (λ (i : NamedInput). i.1.load_contents) inputs ≡ false
    → (heads_wanted inputs staged ≡ []) × (with_contents inputs staged heads ≡ Ok staged)

-- the limit of contents, in bytes (CWL v1.2: `loadContents`, "64 KiB")
abbrev pub ContentsAreLimited : Type 0
ContentsAreLimited = MOST_CONTENTS ≡ 65536
