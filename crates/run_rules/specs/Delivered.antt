-- Where the files of a result are put, and how the result is told.
use Rattle.std.specs.Prelude.{Bool, true, false, ◌++◌, if◌then◌else◌, map, bytes_eq, codes}
use Rattle.std.specs.List.{list_any}
use Rattle.cwl_value.specs.declared.place.Place.{Place}
use Rattle.cwl_value.specs.declared.value.Value.{Value, fold-Value, roll-Value}
use Rattle.cwl_value.specs.declared.value.Value.TheOpen.{Value-F}
use Rattle.file_values.specs.Location.{location_of}
use Rattle.cwl_value.specs.Fileless.{some_true}
use Rattle.cwl_value.specs.Placed.{fields_moved}
use Rattle.job_graph.specs.Words.{Name, Fields, JobPlace, last_by_name}

-- Whether there is something to deliver

-- where each of its parts is known to be or hold a File or Directory, or not
abbrev pub has_file_at : Value-F Bool Bool Bool → Bool
has_file_at (Value-F.FileVal file) = true
has_file_at (Value-F.DirVal dir) = true
has_file_at (Value-F.List found) = some_true found
has_file_at (Value-F.Fields found) = some_true (map (λ f. f.1) found)
has_file_at _ = false

-- whether a value is a File or Directory, or holds one at any depth
abbrev pub has_file : Value → Bool
has_file = fold-Value Bool Bool Bool has_file_at (λ dir. true) (λ file. true)

abbrev pub any_file : Fields → Bool
any_file fields = list_any (λ f. has_file f.1) fields

-- From where it is copied

-- the path of a name in a job's output folder, which is itself called `.`
abbrev pub made_path : Name → Name → Name
made_path folder name = if bytes_eq name (codes ".") then folder else folder ++ codes "/" ++ name

-- what a job made stands in the folder that has its outputs; any other place stays
abbrev pub source_place : (JobPlace → Name) → Place → Place
source_place folder (Place.Made job name) = Place.Path (made_path (folder job) name)
source_place folder place = place

-- the outputs with each File and Directory where it was made, in the order of their names
abbrev pub sources : (JobPlace → Name) → Fields → Fields
sources folder outputs = last_by_name (fields_moved (source_place folder) outputs)

-- How it is told

-- named values as one object, in the order of their names
abbrev pub object_of : Fields → Value
object_of named = roll-Value (Value-F.Fields (last_by_name named))

-- a path as a location
abbrev pub location_place : Place → Place
location_place (Place.Path path) = Place.Url (location_of path)
location_place place = place

-- the output object as it was delivered, each File and Directory at its location
abbrev pub located : Fields → Value
located delivered = roll-Value (Value-F.Fields (fields_moved location_place delivered))
