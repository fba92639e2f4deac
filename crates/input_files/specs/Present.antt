-- Whether all is there in a value as it was measured: what was measured as it had to be has a sum or a listing, and what is absent has
-- none (`Measured`). What a job made is there.
use Rattle.std.specs.Prelude.{Bool, true, false, ◌&&◌, ◌||◌, is_some, List, map}
use Rattle.std.specs.List.{list_all}
use Rattle.cwl_value.specs.declared.place.Place.{Place}
use Rattle.cwl_value.specs.declared.place.Place.TheVariants as place
use Rattle.cwl_value.specs.declared.value.Value.{Value, fold-Value}
use Rattle.cwl_value.specs.declared.value.Value.TheOpen.{Value-F, FileVal-F, DirVal-F}
use Rattle.cwl_value.specs.declared.value.FileVal.{FileVal, fold-FileVal}
use Rattle.cwl_value.specs.declared.value.DirVal.{DirVal, fold-DirVal}

abbrev pub all_true : List Bool → Bool
all_true flags = list_all (λ flag. flag) flags

-- whether all of a value is there, where this is known of its Files and Directories
abbrev pub value_there : Value-F Bool Bool Bool → Bool
value_there (Value-F.FileVal there) = there
value_there (Value-F.DirVal there) = there
value_there (Value-F.List flags) = all_true flags
value_there (Value-F.Fields flags) = all_true (map (λ e. e.1) flags)
value_there _ = true

abbrev pub is_made : Place → Bool
is_made (place.Made job name) = true
is_made _ = false

abbrev pub file_present : FileVal-F Bool Bool Bool → Bool
file_present f = (is_made f.place || is_some f.checksum) && all_true f.secondary

-- the listing of a Directory that is there is what was found in it
abbrev pub dir_present : DirVal-F Bool Bool Bool → Bool
dir_present d = is_made d.place || is_some d.listing

-- each File and Directory of the value is there, at any depth
abbrev pub is_present : Value → Bool
is_present = fold-Value Bool Bool Bool value_there dir_present file_present

abbrev pub is_file_present : FileVal → Bool
is_file_present = fold-FileVal Bool Bool Bool value_there dir_present file_present

abbrev pub is_dir_present : DirVal → Bool
is_dir_present = fold-DirVal Bool Bool Bool value_there dir_present file_present
