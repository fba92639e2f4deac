-- The Files and Directories of an output folder, as values (CWL v1.2, "File", "Directory"). Each stands at its name below the folder.
use Rattle.std.specs.Prelude.{ℕ, suc, zero, Bool, ◌==◌, if◌then◌else◌, List, [], ◌++◌, length, map, filter, flat_map, codes, Option, Some, None, option_map, bytes_eq}
use Rattle.std.specs.Option.{option_to_list}
use Rattle.std.specs.List.{before_last, after_last}
use Rattle.plain_data.specs.ByName.{value_at}
use Rattle.cwl_value.specs.declared.place.Place.TheVariants.{Url}
use Rattle.cwl_value.specs.declared.value.Value.{Value}
use Rattle.cwl_value.specs.declared.value.Value as value
use Rattle.cwl_value.specs.declared.value.FileVal.{FileVal, roll-FileVal}
use Rattle.cwl_value.specs.declared.value.DirVal.{DirVal, roll-DirVal}
use Rattle.collected_outputs.specs.declared.listing.Entry.{Entry}
use Rattle.collected_outputs.specs.Listing.{Listing}
use Rattle.collected_outputs.specs.Matched.{Name}

abbrev pub is_slash : ℕ → Bool
is_slash c = c == 47

-- the last component of a name
abbrev pub basename_of : Name → Name
basename_of name = after_last is_slash name

-- what stands in a folder, and not deeper; the output folder has no name
abbrev pub stands_in : Name → Name → Bool
stands_in folder name = bytes_eq (before_last is_slash name) folder

abbrev pub checksum_of : List ℕ → List ℕ
checksum_of sum = codes "sha1$" ++ sum

abbrev pub file_at : Name → Entry → FileVal
file_at name e = roll-FileVal (record {
  place = Url name;
  basename = Some (basename_of name);
  checksum = Some (checksum_of e.sum);
  size = Some e.size;
  contents = None;
  secondary = [];
})

abbrev pub dir_at : Name → Name → List Value → DirVal
dir_at name basename inside = roll-DirVal (record { place = Url name; basename = Some basename; listing = Some inside })

-- a File, or a Directory with what is in it
abbrev pub entry_value : (Name → List Value) → Name → Entry → Value
entry_value inside name e = (if e.is_dir then value.DirVal (dir_at name (basename_of name) (inside name)) else value.FileVal (file_at name e))

-- what stands in a folder, in the order of the names, so many folders deep
abbrev pub values_in : Listing → ℕ → Name → List Value
values_in listing zero folder = []
values_in listing (suc depth) folder = map (λ e. entry_value (values_in listing depth) e.0 e.1) (filter (λ e. stands_in folder e.0) listing)

-- a folder in it is no deeper than there are entries
abbrev pub all_in : Listing → Name → List Value
all_in listing folder = values_in listing (length listing) folder

-- what stands under a name; `.` is the output folder itself
abbrev pub value_under : Listing → Name → Option Value
value_under listing name =
    (if bytes_eq name (codes ".") then Some (value.DirVal (dir_at (codes ".") (codes "out") (all_in listing []))) else option_map (entry_value (all_in listing) name) (value_at name listing))

abbrev pub values_of : Listing → List Name → List Value
values_of listing names = flat_map (λ name. option_to_list (value_under listing name)) names
