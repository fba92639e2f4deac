-- The contents of the Files of inputs that ask for them (CWL v1.2, "CommandInputParameter" and "CommandLineBinding": loadContents): the
-- whole file as text, where it has at most 65,536 bytes.
use Rattle.std.specs.Prelude.{ℕ, nat_lt, Bool, true, false, if◌then◌else◌, List, [], ◌∷◌, map, Option, Some, None, Result, Ok, Err, unwrap_or}
use Rattle.std.specs.List.{flat_map}
use Rattle.std.specs.Str.{is_utf8}
use Rattle.plain_data.specs.ByName.{value_at}
use Rattle.cwl_value.specs.declared.place.Place.{Place}
use Rattle.cwl_value.specs.declared.place.Place.TheVariants as place
use Rattle.cwl_value.specs.declared.value.Value.{Value}
use Rattle.cwl_value.specs.declared.value.FileVal.{FileVal, out-FileVal, roll-FileVal}
use Rattle.input_files.specs.Given.{Name, Fields, NamedInput, last_by_name, files_in, with_files}
use Rattle.input_files.specs.Inputs.{or_else}
use Rattle.input_files.specs.Paths.{Paths, own_path, each_once}
use Rattle.input_files.specs.declared.fault.ContentsFault.{ContentsFault}
use Rattle.input_files.specs.declared.fault.ContentsFault.TheVariants as fault
use Rattle.cwl_value.specs.declared.value.TheConstants.{MOST_CONTENTS}

-- the first bytes of files, by path
abbrev pub Heads : Type 0
Heads = List (Name × List ℕ)

-- whether each input asks for contents, by name
abbrev pub Asked : Type 0
Asked = List (Name × Bool)

abbrev pub asked_by : List NamedInput → Asked
asked_by inputs = last_by_name (map (λ input. (input.0, input.1.load_contents)) inputs)

abbrev pub loads : Asked → Name → Bool
loads asked name = unwrap_or (value_at name asked) false

abbrev pub is_too_long : FileVal → Bool
is_too_long f = nat_lt MOST_CONTENTS (unwrap_or (out-FileVal f).size 0)

-- the head of a File: its path, unless it is too long
abbrev pub file_wants : FileVal → Paths
file_wants f = (if is_too_long f then [] else own_path (out-FileVal f).place)

abbrev pub field_wants : Asked → Name × Value → Paths
field_wants asked field = (if loads asked field.0 then flat_map file_wants (files_in field.1) else [])

-- the paths whose first bytes are read, by the order of the inputs' names
abbrev pub heads_wanted : List NamedInput → Fields → Paths
heads_wanted inputs staged = each_once (flat_map (field_wants (asked_by inputs)) staged)

abbrev pub head_at : Heads → Place → Option (List ℕ)
head_at heads (place.Path path) = value_at path heads
head_at heads _ = None

abbrev pub is_text : Option (List ℕ) → Bool
is_text None = true
is_text (Some bytes) = is_utf8 bytes

-- what is wrong with a File's contents
abbrev pub file_fault : Heads → Name → FileVal → Option ContentsFault
file_fault heads name f =
    (if is_too_long f then Some (fault.TooLong name) else if is_text (head_at heads (out-FileVal f).place) then None else Some (fault.NotUtf8 name))

abbrev pub files_fault : Heads → Name → List FileVal → Option ContentsFault
files_fault heads name [] = None
files_fault heads name (f ∷ fs) = or_else (file_fault heads name f) (files_fault heads name fs)

abbrev pub field_fault : Asked → Heads → Name × Value → Option ContentsFault
field_fault asked heads field = (if loads asked field.0 then files_fault heads field.0 (files_in field.1) else None)

-- the first fault, by the order of the inputs' names
abbrev pub contents_fault : Asked → Heads → Fields → Option ContentsFault
contents_fault asked heads [] = None
contents_fault asked heads (field ∷ more) = or_else (field_fault asked heads field) (contents_fault asked heads more)

-- the text of a head; none where it is no text
abbrev pub text_of : Option (List ℕ) → Option (List ℕ)
text_of None = None
text_of (Some bytes) = (if is_utf8 bytes then Some bytes else None)

-- the File with its first bytes as its contents
abbrev pub file_loaded : Heads → FileVal → FileVal
file_loaded heads f = roll-FileVal (record (out-FileVal f) { contents = text_of (head_at heads (out-FileVal f).place) })

abbrev pub value_loaded : Bool → Heads → Value → Value
value_loaded asks heads v = (if asks then with_files (file_loaded heads) v else v)

abbrev pub field_loaded : Asked → Heads → Name × Value → Name × Value
field_loaded asked heads field = (field.0, value_loaded (loads asked field.0) heads field.1)

abbrev pub unless_fault : Option ContentsFault → Fields → Result Fields ContentsFault
unless_fault None fields = Ok fields
unless_fault (Some found) fields = Err found

-- the staged inputs with their contents, or the first fault
abbrev pub with_contents : List NamedInput → Fields → Heads → Result Fields ContentsFault
with_contents inputs staged heads = unless_fault (contents_fault (asked_by inputs) heads staged) (map (field_loaded (asked_by inputs) heads) staged)
