-- What stands below a measured folder, as values (CWL v1.2, "File", "Directory"). Each stands at its path below the folder's.
use Rattle.std.specs.Prelude.{ℕ, suc, zero, Bool, if◌then◌else◌, List, [], ◌∷◌, ◌++◌, length, map, filter, codes, Some, None, bytes_eq}
use Rattle.std.specs.List.{before_last, after_last}
use Rattle.cwl_value.specs.declared.place.Place.TheVariants.{Path}
use Rattle.cwl_value.specs.declared.value.Value.{Value}
use Rattle.cwl_value.specs.declared.value.Value as value
use Rattle.cwl_value.specs.declared.value.FileVal.{roll-FileVal}
use Rattle.cwl_value.specs.declared.value.DirVal.{roll-DirVal}
use Rattle.file_values.specs.Names.{is_slash, without_last_slashes}
use Rattle.staging.specs.declared.found.Found.{Found}
use Rattle.input_files.specs.Given.{Name}

-- `sha1$` and the sum
abbrev pub checksum_of : Name → Name
checksum_of sum = codes "sha1$" ++ sum

-- a File of this size and sum, with no files beside it
abbrev pub measured_file : Name → Name → ℕ → Name → Value
measured_file path name size sum = value.FileVal (roll-FileVal (record {
  place = Path path;
  basename = Some name;
  checksum = Some (checksum_of sum);
  size = Some size;
  contents = None;
  secondary = [];
}))

abbrev pub measured_dir : Name → Name → List Value → Value
measured_dir path name listing = value.DirVal (roll-DirVal (record { place = Path path; basename = Some name; listing = Some listing }))

-- the path of a name below a folder
abbrev pub path_below : Name → Name → Name
path_below folder name = without_last_slashes folder ++ 47 ∷ name

-- what stands in a folder, and not deeper; the measured folder itself has no name
abbrev pub stands_in : Name → Found → Bool
stands_in folder found = bytes_eq (before_last is_slash found.name) folder

-- a File, or a Directory with what is in it
abbrev pub found_value : Name → (Name → List Value) → Found → Value
found_value root inside found =
    (if found.is_dir then measured_dir (path_below root found.name) (after_last is_slash found.name) (inside found.name) else measured_file (path_below root found.name) (after_last is_slash found.name) found.size found.sum)

-- what stands in a folder, in the order of the listing, so many folders deep
abbrev pub values_in : Name → List Found → ℕ → Name → List Value
values_in root listing zero folder = []
values_in root listing (suc depth) folder = map (found_value root (values_in root listing depth)) (filter (stands_in folder) listing)

-- what stands in the measured folder; a folder in it is no deeper than there are entries
abbrev pub values_below : Name → List Found → List Value
values_below root listing = values_in root listing (length listing) []
