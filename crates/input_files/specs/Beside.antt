-- The files beside an input's Files (CWL v1.2, "CommandInputParameter": secondaryFiles; "SecondaryFileSchema").
use Rattle.std.specs.Prelude.{Bool, false, true, ◌||◌, ◌&&◌, if◌then◌else◌, List, [], ◌∷◌, ◌++◌, fold, bytes_eq, Option, Some, None, unwrap_or}
use Rattle.std.specs.Option.{option_map_or}
use Rattle.std.specs.List.{list_any, before_last, after_last, flat_map}
use Rattle.plain_data.specs.ByName.{value_at}
use Rattle.cwl_process.specs.declared.tool.SecondaryFile.{SecondaryFile}
use Rattle.cwl_value.specs.Reading.{is_name}
use Rattle.cwl_value.specs.Secondary.{has_name}
use Rattle.cwl_value.specs.declared.place.Place.{Place}
use Rattle.cwl_value.specs.declared.place.Place.TheVariants as place
use Rattle.cwl_value.specs.declared.value.Value.{Value}
use Rattle.cwl_value.specs.declared.value.FileVal.{FileVal, out-FileVal, roll-FileVal}
use Rattle.file_values.specs.Names.{is_slash, secondary_name}
use Rattle.staging.specs.declared.measure.Measure.{Measure}
use Rattle.staging.specs.declared.measure.Measure.TheVariants as measure
use Rattle.input_files.specs.Given.{Name, files_in, with_files}
use Rattle.input_files.specs.Listing.{measured_file, measured_dir, values_below}
use Rattle.input_files.specs.Measured.{Measures}

-- the path of a name in the folder of another path
abbrev pub beside : Name → Name → Name
beside path name = (if list_any is_slash path then before_last is_slash path ++ 47 ∷ name else name)

-- the File's name, or the last component of its path
abbrev pub primary_name : Option Name → Name → Name
primary_name basename path = unwrap_or basename (after_last is_slash path)

-- the name that a pattern gives to a file beside a File at a path
abbrev pub name_beside : FileVal → Name → SecondaryFile → Name
name_beside f path declared = secondary_name declared.pattern (primary_name (out-FileVal f).basename path)

-- the File, or one that it carries, has this name
abbrev pub carries : FileVal → Name → Bool
carries f name = option_map_or (bytes_eq name) (out-FileVal f).basename false || list_any (has_name name) (out-FileVal f).secondary

-- the name that a File lacks, and its path; none where it carries a file of that name. A File that has no path lacks nothing.
abbrev pub lacked_at : FileVal → SecondaryFile → Place → Option (Name × Name)
lacked_at f declared (place.Path path) =
    (if carries f (name_beside f path declared) then None else Some (name_beside f path declared, beside path (name_beside f path declared)))
lacked_at f declared _ = None

abbrev pub lacked : FileVal → SecondaryFile → Option (Name × Name)
lacked f declared = lacked_at f declared (out-FileVal f).place

-- where it is looked for; a name that no file may have is not
abbrev pub looked_for_at : Option (Name × Name) → List Name
looked_for_at None = []
looked_for_at (Some names) = (if is_name names.0 then names.1 ∷ [] else [])

-- the paths of the files that the Files of a value lack
abbrev pub looked_for : List SecondaryFile → Value → List Name
looked_for declared v = flat_map (λ f. flat_map (λ one. looked_for_at (lacked f one)) declared) (files_in v)

-- what stands at a path, under a name
abbrev pub value_of : Name → Name → Option Measure → List Value
value_of name path (Some (measure.File size sum)) = measured_file path name size sum ∷ []
value_of name path (Some (measure.Folder listing)) = measured_dir path name (values_below path listing) ∷ []
value_of name path _ = []

-- the file that was found, where there is one
abbrev pub found_at : Measures → Name × Name → List Value
found_at measures names = (if is_name names.0 then value_of names.0 names.1 (value_at names.1 measures) else [])

abbrev pub has_none : List Value → Bool
has_none [] = true
has_none (v ∷ vs) = false

-- whether a required file is absent
abbrev pub is_absent : Measures → FileVal → SecondaryFile → Bool
is_absent measures f declared = declared.required && option_map_or (λ names. has_none (found_at measures names)) (lacked f declared) false

-- whether a File of the value lacks a required file that is absent
abbrev pub lacks_required : Measures → List SecondaryFile → Value → Bool
lacks_required measures declared v = list_any (λ f. list_any (is_absent measures f) declared) (files_in v)

abbrev pub with_secondary : FileVal → List Value → FileVal
with_secondary f vs = roll-FileVal (record (out-FileVal f) { secondary = (out-FileVal f).secondary ++ vs })

-- the File with the file that it lacks, where that was found
abbrev pub with_one : Measures → FileVal → SecondaryFile → FileVal
with_one measures f declared = option_map_or (λ names. with_secondary f (found_at measures names)) (lacked f declared) f

-- the files that are declared, one after another
abbrev pub file_beside : Measures → List SecondaryFile → FileVal → FileVal
file_beside measures declared f = fold (with_one measures) f declared

-- the value, each File with the files beside it
abbrev pub all_beside : Measures → List SecondaryFile → Value → Value
all_beside measures declared v = with_files (file_beside measures declared) v
