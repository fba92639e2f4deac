-- What holds of each File and Directory of a value, at any depth.
use Rattle.std.specs.Prelude.{Bool, true, not, ◌&&◌, is_some}
use Rattle.std.specs.Option.{option_map_or}
use Rattle.cwl_value.specs.declared.place.Place.{Place}
use Rattle.cwl_value.specs.declared.value.Value.{Value, fold-Value}
use Rattle.cwl_value.specs.declared.value.Value.TheOpen.{FileVal-F, DirVal-F}
use Rattle.collected_outputs.specs.Checked.{every, found_value}

-- what a File itself has to pass, and what a Directory
abbrev pub FileTest : Type 0
FileTest = FileVal-F Bool Bool Bool → Bool

abbrev pub DirTest : Type 0
DirTest = DirVal-F Bool Bool Bool → Bool

abbrev pub passes_file : FileTest → FileTest
passes_file test f = test f && every f.secondary

abbrev pub passes_dir : DirTest → DirTest
passes_dir test d = test d && option_map_or every d.listing true

-- each File passes the one test and each Directory the other: the value itself, those in lists, fields and Directories, and those beside Files
abbrev pub all_pass : FileTest → DirTest → Value → Bool
all_pass file dir = fold-Value Bool Bool Bool found_value (passes_dir dir) (passes_file file)

-- the place of each File and Directory is such a one
abbrev pub all_places : (Place → Bool) → Value → Bool
all_places is = all_pass (λ f. is f.place) (λ d. is d.place)

-- no File has contents
abbrev pub has_no_contents : Value → Bool
has_no_contents = all_pass (λ f. not (is_some f.contents)) (λ d. true)
