-- A job's outputs as the rest of the process sees them; and which jobs made the Files and Directories in a value.
use Rattle.std.specs.Prelude.{Bool, false, ◌||◌, List, Option, Some, None, map}
use Rattle.std.specs.List.{list_any}
use Rattle.cwl_value.specs.Fileless.{some_true}
use Rattle.cwl_value.specs.Placed.{fields_moved}
use Rattle.cwl_value.specs.declared.value.Value.{Value, fold-Value}
use Rattle.cwl_value.specs.declared.value.Value.TheOpen.{Value-F, FileVal-F, DirVal-F}
use Rattle.cwl_value.specs.declared.value.FileVal.{FileVal, fold-FileVal}
use Rattle.cwl_value.specs.declared.value.DirVal.{DirVal, fold-DirVal}
use Rattle.cwl_value.specs.declared.place.Place.{Place}
use Rattle.job_graph.specs.Words.{Fields, JobPlace, is_same_place}

-- a relative name in the output folder becomes the job's
abbrev pub made_place : JobPlace → Place → Place
made_place job (Place.Url name) = Place.Made job name
made_place job place = place

-- a job's named outputs, as the rest of the process sees them
abbrev pub fields_made : JobPlace → Fields → Fields
fields_made job fields = fields_moved (made_place job) fields

-- Which files a job made

abbrev pub is_of : JobPlace → Place → Bool
is_of job (Place.Made maker name) = is_same_place maker job
is_of job place = false

-- where each of its parts is known to hold one or not
abbrev pub holds_at : Value-F Bool Bool Bool → Bool
holds_at (Value-F.FileVal b) = b
holds_at (Value-F.DirVal b) = b
holds_at (Value-F.List found) = some_true found
holds_at (Value-F.Fields found) = some_true (map (λ f. f.1) found)
holds_at _ = false

abbrev pub listing_holds : Option (List Bool) → Bool
listing_holds None = false
listing_holds (Some found) = some_true found

abbrev pub dir_level : JobPlace → DirVal-F Bool Bool Bool → Bool
dir_level job d = is_of job d.place || listing_holds d.listing

abbrev pub file_level : JobPlace → FileVal-F Bool Bool Bool → Bool
file_level job f = is_of job f.place || some_true f.secondary

-- whether a value holds, at any depth, a File or Directory that the job made
abbrev pub holds_made : JobPlace → Value → Bool
holds_made job = fold-Value Bool Bool Bool holds_at (dir_level job) (file_level job)

abbrev pub file_holds : JobPlace → FileVal → Bool
file_holds job = fold-FileVal Bool Bool Bool holds_at (dir_level job) (file_level job)

abbrev pub dir_holds : JobPlace → DirVal → Bool
dir_holds job = fold-DirVal Bool Bool Bool holds_at (dir_level job) (file_level job)

abbrev pub any_made : JobPlace → Fields → Bool
any_made job fields = list_any (λ f. holds_made job f.1) fields
