-- A value whose Files and Directories are as they were measured: sizes and sums of Files and the listings of Directories are those that
-- were found, whatever the value says of them, and what is absent has none (CWL v1.2, "File": checksum, size; "Directory": listing).
use Rattle.std.specs.Prelude.{ℕ, Bool, true, false, ◌&&◌, if◌then◌else◌, List, map, Option, Some, None}
use Rattle.std.specs.Option.{option_map_or}
use Rattle.plain_data.specs.ByName.{value_at}
use Rattle.cwl_value.specs.declared.place.Place.{Place}
use Rattle.cwl_value.specs.declared.place.Place.TheVariants as place
use Rattle.cwl_value.specs.declared.value.Value.{Value, roll-Value, fold-Value}
use Rattle.cwl_value.specs.declared.value.Value.TheOpen.{FileVal-F, DirVal-F}
use Rattle.cwl_value.specs.declared.value.FileVal.{FileVal, roll-FileVal, fold-FileVal}
use Rattle.cwl_value.specs.declared.value.DirVal.{DirVal, roll-DirVal, fold-DirVal}
use Rattle.staging.specs.declared.measure.Measure.{Measure}
use Rattle.staging.specs.declared.measure.Measure.TheVariants as measure
use Rattle.input_files.specs.Given.{Name}
use Rattle.input_files.specs.Listing.{checksum_of, values_below}
use Rattle.input_files.specs.Present.{all_true, value_there, is_present}

-- what stands at paths
abbrev pub Measures : Type 0
Measures = List (Name × Measure)

-- what stands at a place; only paths are measured
abbrev pub measure_at : Measures → Place → Option Measure
measure_at measures (place.Path path) = value_at path measures
measure_at measures _ = None

abbrev pub is_file : Option Measure → Bool
is_file (Some (measure.File size sum)) = true
is_file _ = false

abbrev pub is_folder : Option Measure → Bool
is_folder (Some (measure.Folder listing)) = true
is_folder _ = false

-- Whether all is there.

abbrev pub file_there : Measures → FileVal-F Bool Bool Bool → Bool
file_there measures f = is_file (measure_at measures f.place) && all_true f.secondary

abbrev pub dir_there : Measures → DirVal-F Bool Bool Bool → Bool
dir_there measures d = is_folder (measure_at measures d.place) && option_map_or all_true d.listing true

-- a file stands where each File of the value is, and a folder where each Directory is, at any depth
abbrev pub is_there : Measures → Value → Bool
is_there measures = fold-Value Bool Bool Bool value_there (dir_there measures) (file_there measures)

abbrev pub is_file_there : Measures → FileVal → Bool
is_file_there measures = fold-FileVal Bool Bool Bool value_there (dir_there measures) (file_there measures)

abbrev pub is_dir_there : Measures → DirVal → Bool
is_dir_there measures = fold-DirVal Bool Bool Bool value_there (dir_there measures) (file_there measures)

-- The value as it was measured.

-- the checksum and the size of what was measured; none where there is no file
abbrev pub sum_found : Option Measure → Option (List ℕ) × Option ℕ
sum_found (Some (measure.File size sum)) = (Some (checksum_of sum), Some size)
sum_found _ = (None, None)

abbrev pub file_level : Measures → FileVal-F Value DirVal FileVal → FileVal
file_level measures f = roll-FileVal (record f {
  checksum = (sum_found (measure_at measures f.place)).0;
  size = (sum_found (measure_at measures f.place)).1;
})

abbrev pub listing_with : Name → Option Measure → Option (List Value)
listing_with path (Some (measure.Folder listing)) = Some (values_below path listing)
listing_with path _ = None

-- what is in the folder that was measured at a place; none where there is no folder
abbrev pub found_listing : Measures → Place → Option (List Value)
found_listing measures (place.Path path) = listing_with path (value_at path measures)
found_listing measures _ = None

-- the Directory with what is in it; no listing where something that it lists is absent
abbrev pub dir_level : Measures → DirVal-F Value DirVal FileVal → DirVal
dir_level measures d =
    roll-DirVal (record d { listing = (if option_map_or (λ listed. all_true (map is_present listed)) d.listing true then found_listing measures d.place else None) })

-- each File and Directory of the value, at any depth, as it was measured
abbrev pub as_measured : Measures → Value → Value
as_measured measures = fold-Value Value DirVal FileVal roll-Value (dir_level measures) (file_level measures)

abbrev pub file_as_measured : Measures → FileVal → FileVal
file_as_measured measures = fold-FileVal Value DirVal FileVal roll-Value (dir_level measures) (file_level measures)

abbrev pub dir_as_measured : Measures → DirVal → DirVal
dir_as_measured measures = fold-DirVal Value DirVal FileVal roll-Value (dir_level measures) (file_level measures)
