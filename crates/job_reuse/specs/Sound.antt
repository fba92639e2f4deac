-- When a row that was found is one of its tool. One that is not contradicts itself or the tool, and is refused (R1).
use Rattle.std.specs.Prelude.{◌≡◌, Bool, true, ◌&&◌, All, is_some}
use Rattle.std.specs.Map.{values_of}
use Rattle.cwl_process.specs.declared.tool.Tool.{Tool}
use Rattle.cwl_value.specs.declared.value.Value.{Value}
use Rattle.collected_outputs.specs.Checked.{is_found}
use Rattle.collected_outputs.specs.Laws.{AreDeclared, is_scanned}
use Rattle.collected_outputs.specs.Listing.{Listing, listing_of}
use Rattle.collected_outputs.specs.Throughout.{FileTest, DirTest, all_pass}
use Rattle.job_rows.specs.declared.row.Row.{Row}

-- a File has a basename, and is one of the files by its name, size and sum
abbrev pub is_file_there : Listing → FileTest
is_file_there listing f = is_some f.basename && is_scanned listing f.size f.checksum f.place

-- a Directory has a basename, and is one of the folders by its name; `.` is the job's folder itself
abbrev pub is_dir_there : Listing → DirTest
is_dir_there listing d = is_some d.basename && is_found listing d.place true

-- each File and Directory of the value is there, at any depth
abbrev pub all_stand : Listing → Value → Bool
all_stand listing = all_pass (is_file_there listing) (is_dir_there listing)

-- the outputs are those that the tool declares, each of its type, and what they name is among the row's files
pub record IsSound (tool : Tool) (row : Row) : Type 0 where
  pub declared : AreDeclared tool.outputs row.outputs
  pub there : All (λ v. all_stand (listing_of row.files) v ≡ true) (values_of row.outputs)
