-- Whether Files and Directories are among files by name, looked up. No public contract cites this.
use Rattle.std.specs.Prelude.{ℕ, Bool, true, false, not, ◌&&◌, ◌==◌, if◌then◌else◌, List, Option, codes, is_some, bytes_eq}
use Rattle.std.specs.Option.{option_map_or}
use Rattle.plain_data.specs.ByName.{value_at}
use Rattle.cwl_value.specs.declared.place.Place.{Place}
use Rattle.cwl_value.specs.declared.place.Place.TheVariants.{Nowhere, Url, Path, Made}
use Rattle.cwl_value.specs.declared.value.Value.{Value}
use Rattle.cwl_value.specs.declared.value.FileVal.{FileVal, fold-FileVal}
use Rattle.cwl_value.specs.declared.value.DirVal.{DirVal, fold-DirVal}
use Rattle.collected_outputs.specs.Checked.{found_value}
use Rattle.collected_outputs.specs.Throughout.{FileTest, DirTest, passes_file, passes_dir, all_pass}
use Rattle.collected_outputs.specs.Values.{checksum_of}
use Rattle.job_reuse.specs.inner.Index.{Index}
use Rattle.staging.specs.declared.found.Found.{Found}

-- a file of that size and sum
abbrev pub has_sum : Option ℕ → Option (List ℕ) → Found → Bool
has_sum size checksum f = not f.is_dir && (option_map_or (λ n. n == f.size) size false && option_map_or (bytes_eq (checksum_of f.sum)) checksum false)

abbrev pub file_at : Index → Option ℕ → Option (List ℕ) → Place → Bool
file_at index size checksum Nowhere = false
file_at index size checksum (Url name) = option_map_or (has_sum size checksum) (value_at name index) false
file_at index size checksum (Path path) = false
file_at index size checksum (Made job name) = false

abbrev pub folder_named : Index → List ℕ → Bool
folder_named index name = (if bytes_eq name (codes ".") then true else option_map_or (λ (f : Found). f.is_dir) (value_at name index) false)

abbrev pub folder_at : Index → Place → Bool
folder_at index Nowhere = false
folder_at index (Url name) = folder_named index name
folder_at index (Path path) = false
folder_at index (Made job name) = false

abbrev pub file_test : Index → FileTest
file_test index f = is_some f.basename && file_at index f.size f.checksum f.place

abbrev pub dir_test : Index → DirTest
dir_test index d = is_some d.basename && folder_at index d.place

abbrev pub all_stand_by : Index → Value → Bool
all_stand_by index = all_pass (file_test index) (dir_test index)

abbrev pub file_stands : Index → FileVal → Bool
file_stands index = fold-FileVal Bool Bool Bool found_value (passes_dir (dir_test index)) (passes_file (file_test index))

abbrev pub dir_stands : Index → DirVal → Bool
dir_stands index = fold-DirVal Bool Bool Bool found_value (passes_dir (dir_test index)) (passes_file (file_test index))
