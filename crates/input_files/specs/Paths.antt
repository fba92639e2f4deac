-- Which paths are measured before a run: those of every File and Directory of the input object and of each default, at any depth, and
-- those at which the files are looked for that an input of the root declares and a File of it lacks (CWL v1.2,
-- "CommandInputParameter", "WorkflowInputParameter": secondaryFiles).
use Rattle.std.specs.Prelude.{if◌then◌else◌, List, [], ◌∷◌, ◌++◌, map, fold, bytes_eq}
use Rattle.std.specs.List.{list_any, flat_map}
use Rattle.std.specs.Option.{option_map_or}
use Rattle.plain_data.specs.ByName.{map_values}
use Rattle.cwl_process.specs.declared.tool.SecondaryFile.{SecondaryFile}
use Rattle.cwl_value.specs.declared.place.Place.{Place}
use Rattle.cwl_value.specs.declared.place.Place.TheVariants as place
use Rattle.cwl_value.specs.declared.value.Value.{Value, fold-Value}
use Rattle.cwl_value.specs.declared.value.Value.TheOpen.{Value-F, FileVal-F, DirVal-F}
use Rattle.cwl_value.specs.declared.value.FileVal.{FileVal, fold-FileVal}
use Rattle.cwl_value.specs.declared.value.DirVal.{DirVal, fold-DirVal}
use Rattle.input_files.specs.Given.{Name, Fields, NamedInput, value_under}
use Rattle.input_files.specs.Beside.{looked_for}
use Rattle.input_files.specs.Parameters.{Parameter, tool_parameter}

abbrev pub Paths : Type 0
Paths = List Name

abbrev pub own_path : Place → Paths
own_path (place.Path path) = path ∷ []
own_path _ = []

abbrev pub joined : List Paths → Paths
joined several = flat_map (λ paths. paths) several

abbrev pub file_paths : FileVal-F Paths Paths Paths → Paths
file_paths f = own_path f.place ++ joined f.secondary

abbrev pub dir_paths : DirVal-F Paths Paths Paths → Paths
dir_paths d = own_path d.place ++ option_map_or joined d.listing []

abbrev pub value_paths : Value-F Paths Paths Paths → Paths
value_paths (Value-F.FileVal paths) = paths
value_paths (Value-F.DirVal paths) = paths
value_paths (Value-F.List several) = joined several
value_paths (Value-F.Fields several) = joined (map (λ e. e.1) several)
value_paths _ = []

-- the paths of the Files and Directories of a value, at any depth
abbrev pub paths_of : Value → Paths
paths_of = fold-Value Paths Paths Paths value_paths dir_paths file_paths

abbrev pub paths_of_file : FileVal → Paths
paths_of_file = fold-FileVal Paths Paths Paths value_paths dir_paths file_paths

abbrev pub paths_of_dir : DirVal → Paths
paths_of_dir = fold-DirVal Paths Paths Paths value_paths dir_paths file_paths

abbrev pub paths_of_items : List Value → Paths
paths_of_items vs = joined (map paths_of vs)

abbrev pub paths_of_fields : Fields → Paths
paths_of_fields fields = joined (map (λ e. e.1) (map_values paths_of fields))

-- the paths of a default of the root's, and those at which the files are looked for that its Files lack
abbrev pub default_adds : List SecondaryFile → Value → Paths
default_adds declared v = paths_of v ++ looked_for declared v

-- for the inputs of one kind of process, seen as parameters
module _ {X : Type 0} (of : X → Parameter) where
  -- what an input of the root adds to the paths of what is given
  abbrev pub root_input_adds : Fields → Name × X → Paths
  root_input_adds given input =
      looked_for (of input.1).secondary_files (value_under input.0 given) ++ option_map_or (default_adds (of input.1).secondary_files) (of input.1).default []

  -- what the inputs of the root add
  abbrev pub root_adds : List (Name × X) → Fields → Paths
  root_adds inputs given = flat_map (root_input_adds given) inputs

  -- the paths of the defaults of a process that is not the root
  abbrev pub paths_of_defaults : List (Name × X) → Paths
  paths_of_defaults inputs = flat_map (λ input. option_map_or paths_of (of input.1).default []) inputs

-- what an input of a tool adds
abbrev pub input_adds : Fields → NamedInput → Paths
input_adds = root_input_adds tool_parameter

abbrev pub with_new : Paths → Name → Paths
with_new kept name = (if list_any (bytes_eq name) kept then kept else kept ++ name ∷ [])

-- each name once, where it stands first
abbrev pub each_once : Paths → Paths
each_once names = fold with_new [] names

-- the paths that are measured
abbrev pub input_paths : List NamedInput → Fields → Paths
input_paths inputs given = each_once (paths_of_fields given ++ flat_map (input_adds given) inputs)
