-- The files beside an output's files (CWL v1.2, "CommandOutputParameter": secondaryFiles).
use Rattle.std.specs.Prelude.{Bool, false, ◌||◌, ◌&&◌, if◌then◌else◌, List, [], ◌∷◌, ◌++◌, map, is_some, bytes_eq, Ok, Err}
use Rattle.std.specs.Option.{option_map_or, option_to_list}
use Rattle.std.specs.List.{list_any, before_last}
use Rattle.plain_data.specs.ByName.{value_at}
use Rattle.cwl_process.specs.declared.tool.SecondaryFile.{SecondaryFile}
use Rattle.cwl_value.specs.Reading.{is_name}
use Rattle.cwl_value.specs.Secondary.{has_name}
use Rattle.cwl_value.specs.declared.place.Place.{Place}
use Rattle.cwl_value.specs.declared.place.Place.TheVariants.{Nowhere, Url, Path, Made}
use Rattle.cwl_value.specs.declared.value.Value.{Value, out-Value}
use Rattle.cwl_value.specs.declared.value.Value as value
use Rattle.cwl_value.specs.declared.value.Value.TheOpen.{Value-F}
use Rattle.cwl_value.specs.declared.value.FileVal.{FileVal, out-FileVal, roll-FileVal}
use Rattle.cwl_value.specs.declared.value.DirVal.{DirVal}
use Rattle.file_values.specs.Names.{secondary_name}
use Rattle.collected_outputs.specs.Gives.{Gives, and_map, and_then, all_given}
use Rattle.collected_outputs.specs.Listing.{Listing}
use Rattle.collected_outputs.specs.Matched.{Name}
use Rattle.collected_outputs.specs.Values.{is_slash, basename_of, value_under}
use Rattle.collected_outputs.specs.declared.fault.CollectFault.TheVariants.{SecondaryAbsent}

-- a name in the folder of another
abbrev pub beside : Name → Name → Name
beside primary name = (if list_any is_slash primary then before_last is_slash primary ++ 47 ∷ name else name)

-- there is a file of that name beside the primary one: a text with a `/` is no name
abbrev pub is_there : Listing → Name → Name → Bool
is_there listing primary name = is_name name && is_some (value_at (beside primary name) listing)

-- the primary file, or one beside it, has this name
abbrev pub stands : Name → FileVal → Bool
stands name f = option_map_or (bytes_eq name) (out-FileVal f).basename false || list_any (has_name name) (out-FileVal f).secondary

abbrev pub with_beside : FileVal → List Value → FileVal
with_beside f vs = roll-FileVal (record (out-FileVal f) { secondary = (out-FileVal f).secondary ++ vs })

-- a required file that is absent is a fault; a name that stands already is dropped
abbrev pub added : Listing → FileVal → Bool → Name → Name → Gives FileVal
added listing f required primary name =
    (if is_there listing primary name then Ok (if stands name f then f else with_beside f (option_to_list (value_under listing (beside primary name)))) else (if required then Err SecondaryAbsent else Ok f))

abbrev pub added_at : Listing → FileVal → SecondaryFile → Place → Gives FileVal
added_at listing f declared (Url primary) = added listing f declared.required primary (secondary_name declared.pattern (basename_of primary))
added_at listing f declared Nowhere = Ok f
added_at listing f declared (Path path) = Ok f
added_at listing f declared (Made job name) = Ok f

-- the files that are declared, one after another
abbrev pub file_beside : Listing → List SecondaryFile → FileVal → Gives FileVal
file_beside listing [] f = Ok f
file_beside listing (declared ∷ more) f = and_then (added_at listing f declared (out-FileVal f).place) (file_beside listing more)

abbrev pub level_beside : Listing → List SecondaryFile → Value → Value-F Value DirVal FileVal → Gives Value
level_beside listing declared v (Value-F.FileVal f) = and_map value.FileVal (file_beside listing declared f)
level_beside listing declared v _ = Ok v

abbrev pub one_beside : Listing → List SecondaryFile → Value → Gives Value
one_beside listing declared v = level_beside listing declared v (out-Value v)

abbrev pub list_beside : Listing → List SecondaryFile → Value → Value-F Value DirVal FileVal → Gives Value
list_beside listing declared v (Value-F.List vs) = and_map value.List (all_given (map (one_beside listing declared) vs))
list_beside listing declared v _ = one_beside listing declared v

-- a File, and each File of a list, with the files beside it
abbrev pub all_beside : Listing → List SecondaryFile → Value → Gives Value
all_beside listing declared v = list_beside listing declared v (out-Value v)
