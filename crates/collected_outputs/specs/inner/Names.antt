-- The names that a secondary file would have. No public contract cites this.
use Rattle.std.specs.Prelude.{Bool, if◌then◌else◌, Option, Some, None, Result, Ok, Err}
use Rattle.cwl_process.specs.declared.tool.SecondaryFile.{SecondaryFile}
use Rattle.cwl_value.specs.declared.place.Place.{Place}
use Rattle.cwl_value.specs.declared.place.Place.TheVariants.{Nowhere, Url, Path, Made}
use Rattle.file_values.specs.Names.{secondary_name}
use Rattle.collected_outputs.specs.Matched.{Name}
use Rattle.collected_outputs.specs.Values.{basename_of}
use Rattle.cwl_value.specs.declared.value.FileVal.{FileVal}
use Rattle.collected_outputs.specs.Beside.{beside, is_there, stands}
use Rattle.collected_outputs.specs.Gives.{Gives}
use Rattle.collected_outputs.specs.Listing.{Listing}
use Rattle.collected_outputs.specs.declared.fault.CollectFault.TheVariants.{SecondaryAbsent}
use Rattle.collected_outputs.specs.declared.fault.Stop.{Stop}
use Rattle.collected_outputs.specs.declared.fault.Stop.TheVariants.{Refused}

abbrev pub name_at : Place → Option Name
name_at Nowhere = None
name_at (Url name) = Some name
name_at (Path path) = None
name_at (Made job name) = None

-- the name that the pattern gives, and where it would stand
abbrev pub names_at : SecondaryFile → Place → Option (Name × Name)
names_at declared Nowhere = None
names_at declared (Url primary) = Some (secondary_name declared.pattern (basename_of primary), beside primary (secondary_name declared.pattern (basename_of primary)))
names_at declared (Path path) = None
names_at declared (Made job name) = None

-- what is to be added where there is no such file
abbrev pub is_absent : Bool → Result (Option Name) Stop
is_absent required = (if required then Err (Refused SecondaryAbsent) else Ok None)

abbrev pub wanted : Listing → FileVal → Bool → Name → Name → Gives (Option Name)
wanted listing f required primary name =
    (if is_there listing primary name then Ok (if stands name f then None else Some (beside primary name)) else (if required then Err SecondaryAbsent else Ok None))

-- where the file stands that is to be added
abbrev pub wanted_at : Listing → FileVal → SecondaryFile → Place → Gives (Option Name)
wanted_at listing f declared (Url primary) = wanted listing f declared.required primary (secondary_name declared.pattern (basename_of primary))
wanted_at listing f declared Nowhere = Ok None
wanted_at listing f declared (Path path) = Ok None
wanted_at listing f declared (Made job name) = Ok None
