-- The contents of files that are asked for (CWL v1.2, "CommandOutputBinding": loadContents): the whole file as text, where it has at most
-- 65,536 bytes.
use Rattle.std.specs.Prelude.{ℕ, nat_lt, if◌then◌else◌, List, map, Option, Some, None, unwrap_or, Ok, Err}
use Rattle.std.specs.Str.{is_utf8}
use Rattle.plain_data.specs.ByName.{value_at}
use Rattle.cwl_value.specs.declared.place.Place.{Place}
use Rattle.cwl_value.specs.declared.place.Place.TheVariants.{Nowhere, Url, Path, Made}
use Rattle.cwl_value.specs.declared.value.Value.{Value, out-Value, roll-Value}
use Rattle.cwl_value.specs.declared.value.Value as value
use Rattle.cwl_value.specs.declared.value.Value.TheOpen.{Value-F}
use Rattle.cwl_value.specs.declared.value.FileVal.{FileVal, out-FileVal, roll-FileVal}
use Rattle.cwl_value.specs.declared.value.DirVal.{DirVal}
use Rattle.collected_outputs.specs.Gives.{Gives, and_map, all_given}
use Rattle.cwl_value.specs.declared.value.TheConstants.{MOST_CONTENTS}
use Rattle.collected_outputs.specs.declared.fault.CollectFault.TheVariants.{TooLong, NotUtf8}

-- the first bytes of files, by name
abbrev pub Heads : Type 0
Heads = List (List ℕ × List ℕ)

abbrev pub head_at : Heads → Place → Option (List ℕ)
head_at heads Nowhere = None
head_at heads (Url name) = value_at name heads
head_at heads (Path path) = None
head_at heads (Made job name) = None

abbrev pub text_of : Option (List ℕ) → Gives (Option (List ℕ))
text_of None = Ok None
text_of (Some bytes) = (if is_utf8 bytes then Ok (Some bytes) else Err NotUtf8)

abbrev pub contents_of : Heads → FileVal → Gives (Option (List ℕ))
contents_of heads f = (if nat_lt MOST_CONTENTS (unwrap_or (out-FileVal f).size 0) then Err TooLong else text_of (head_at heads (out-FileVal f).place))

abbrev pub with_contents : FileVal → Option (List ℕ) → FileVal
with_contents f contents = roll-FileVal (record (out-FileVal f) { contents = contents })

abbrev pub file_loaded : Heads → FileVal → Gives FileVal
file_loaded heads f = and_map (with_contents f) (contents_of heads f)

abbrev pub level_loaded : Heads → Value → Value-F Value DirVal FileVal → Gives Value
level_loaded heads v (Value-F.FileVal f) = and_map value.FileVal (file_loaded heads f)
level_loaded heads v _ = Ok v

-- a File with its contents, and another value as it is
abbrev pub loaded : Heads → Value → Gives Value
loaded heads v = level_loaded heads v (out-Value v)

abbrev pub all_loaded : Heads → List Value → Gives (List Value)
all_loaded heads vs = all_given (map (loaded heads) vs)
