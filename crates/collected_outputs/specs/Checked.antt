-- Which values are outputs, and what of them is kept.
use Rattle.std.specs.Prelude.{ℕ, Bool, true, false, not, ◌&&◌, if◌then◌else◌, List, map, codes, None, bytes_eq}
use Rattle.std.specs.Option.{option_map_or}
use Rattle.std.specs.List.{list_all}
use Rattle.plain_data.specs.ByName.{value_at}
use Rattle.cwl_process.specs.declared.tool.OutputType.{OutputType}
use Rattle.cwl_process.specs.declared.tool.OutputType.TheVariants.{Stdout, Stderr, Members}
use Rattle.cwl_value.specs.declared.place.Place.{Place}
use Rattle.cwl_value.specs.declared.place.Place.TheVariants.{Nowhere, Url, Path, Made}
use Rattle.cwl_value.specs.declared.value.Value.{Value, out-Value, roll-Value, fold-Value}
use Rattle.cwl_value.specs.declared.value.Value.TheOpen.{Value-F, FileVal-F, DirVal-F}
use Rattle.cwl_value.specs.declared.value.FileVal.{FileVal, roll-FileVal, fold-FileVal}
use Rattle.cwl_value.specs.declared.value.DirVal.{DirVal, roll-DirVal, fold-DirVal}
use Rattle.type_check.specs.Fits.{fits}
use Rattle.collected_outputs.specs.declared.listing.Entry.{Entry}
use Rattle.collected_outputs.specs.Listing.{Listing}

-- Files and Directories that were found.

abbrev pub is_named : Listing → List ℕ → Bool → Bool
is_named listing name is_dir = (if bytes_eq name (codes ".") then is_dir else option_map_or (λ (e : Entry). if is_dir then e.is_dir else not e.is_dir) (value_at name listing) false)

-- something of this kind stands under the name of the place
abbrev pub is_found : Listing → Place → Bool → Bool
is_found listing Nowhere is_dir = false
is_found listing (Url name) is_dir = is_named listing name is_dir
is_found listing (Path path) is_dir = false
is_found listing (Made job name) is_dir = false

abbrev pub every : List Bool → Bool
every flags = list_all (λ flag. flag) flags

abbrev pub found_file : Listing → FileVal-F Bool Bool Bool → Bool
found_file listing f = is_found listing f.place false && every f.secondary

abbrev pub found_dir : Listing → DirVal-F Bool Bool Bool → Bool
found_dir listing d = is_found listing d.place true && option_map_or every d.listing true

abbrev pub found_value : Value-F Bool Bool Bool → Bool
found_value (Value-F.FileVal f) = f
found_value (Value-F.DirVal d) = d
found_value (Value-F.List flags) = every flags
found_value (Value-F.Fields flags) = every (map (λ e. e.1) flags)
found_value _ = true

-- each File and Directory of the value is one of the output folder's
abbrev pub all_found : Listing → Value → Bool
all_found listing = fold-Value Bool Bool Bool found_value (found_dir listing) (found_file listing)

abbrev pub file_found : Listing → FileVal → Bool
file_found listing = fold-FileVal Bool Bool Bool found_value (found_dir listing) (found_file listing)

abbrev pub dir_found : Listing → DirVal → Bool
dir_found listing = fold-DirVal Bool Bool Bool found_value (found_dir listing) (found_file listing)

-- Contents that are dropped.

abbrev pub bare_file : FileVal-F Value DirVal FileVal → FileVal
bare_file f = roll-FileVal (record f { contents = None })

abbrev pub bare : Value → Value
bare = fold-Value Value DirVal FileVal roll-Value roll-DirVal bare_file

abbrev pub file_bare : FileVal → FileVal
file_bare = fold-FileVal Value DirVal FileVal roll-Value roll-DirVal bare_file

abbrev pub dir_bare : DirVal → DirVal
dir_bare = fold-DirVal Value DirVal FileVal roll-Value roll-DirVal bare_file

-- Types.

abbrev pub is_file_level : Value-F Value DirVal FileVal → Bool
is_file_level (Value-F.FileVal f) = true
is_file_level _ = false

-- `stdout` and `stderr` are Files
abbrev pub is_typed : OutputType → Value → Bool
is_typed Stdout v = is_file_level (out-Value v)
is_typed Stderr v = is_file_level (out-Value v)
is_typed (Members members) v = fits members v
