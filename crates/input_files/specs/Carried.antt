-- The files that a File has to carry (CWL v1.2, "CommandInputParameter": secondaryFiles; "SecondaryFileSchema": `required`). They are looked
-- for at the root alone (`Beside`); a File that comes from elsewhere has them already.
use Rattle.std.specs.Prelude.{Bool, not, ◌&&◌, List, []}
use Rattle.std.specs.List.{list_any}
use Rattle.cwl_process.specs.declared.tool.SecondaryFile.{SecondaryFile}
use Rattle.cwl_value.specs.declared.place.Place.{Place}
use Rattle.cwl_value.specs.declared.place.Place.TheVariants as place
use Rattle.cwl_value.specs.declared.value.Value.{Value}
use Rattle.cwl_value.specs.declared.value.FileVal.{FileVal, out-FileVal}
use Rattle.input_files.specs.Given.{Name, files_in}
use Rattle.input_files.specs.Beside.{carries, name_beside}

-- the text that ends with a file's name
abbrev pub place_text : Place → Name
place_text place.Nowhere = []
place_text (place.Url location) = location
place_text (place.Path path) = path
place_text (place.Made job name) = name

-- whether a required file is none that the File carries
abbrev pub is_uncarried : FileVal → SecondaryFile → Bool
is_uncarried f declared = declared.required && not (carries f (name_beside f (place_text (out-FileVal f).place) declared))

-- whether a File of the value does not carry a required file
abbrev pub lacks_carried : List SecondaryFile → Value → Bool
lacks_carried declared v = list_any (λ f. list_any (is_uncarried f) declared) (files_in v)
