-- Which output objects can be read back from their JSON: no fields have the class of a File or Directory, the object's own among them, and
-- nothing nests too deep.
use Rattle.std.specs.Prelude.{Bool, false, not, ◌||◌, ◌&&◌, List, codes, bytes_eq}
use Rattle.std.specs.Option.{option_map_or}
use Rattle.std.specs.List.{list_any}
use Rattle.plain_data.specs.ByName.{value_at}
use Rattle.value_depth.specs.Limit.{is_object_within_limit}
use Rattle.cwl_value.specs.declared.value.Value.{Value, fold-Value}
use Rattle.cwl_value.specs.declared.value.Value as value
use Rattle.cwl_value.specs.declared.value.Value.TheOpen.{Value-F, FileVal-F, DirVal-F}
use Rattle.cwl_value.specs.declared.value.FileVal.{FileVal, fold-FileVal}
use Rattle.cwl_value.specs.declared.value.DirVal.{DirVal, fold-DirVal}
use Rattle.collected_outputs.specs.Matched.{Name}

-- Classes.

abbrev pub is_class : Name → Bool
is_class text = bytes_eq text (codes "File") || bytes_eq text (codes "Directory")

-- is the value such a text, and do fields in it have one?
abbrev pub Seen : Type 0
Seen = Bool × Bool

abbrev pub any_seen : List Seen → Bool
any_seen seen = list_any (λ s. s.1) seen

abbrev pub is_classed : List (Name × Seen) → Bool
is_classed fields = option_map_or (λ (s : Seen). s.0) (value_at (codes "class") fields) false

abbrev pub seen_value : Value-F Seen Bool Bool → Seen
seen_value (Value-F.Text text) = (is_class text, false)
seen_value (Value-F.FileVal f) = (false, f)
seen_value (Value-F.DirVal d) = (false, d)
seen_value (Value-F.List seen) = (false, any_seen seen)
seen_value (Value-F.Fields fields) = (false, is_classed fields || list_any (λ e. e.1.1) fields)
seen_value _ = (false, false)

abbrev pub seen_file : FileVal-F Seen Bool Bool → Bool
seen_file f = any_seen f.secondary

abbrev pub seen_dir : DirVal-F Seen Bool Bool → Bool
seen_dir d = option_map_or any_seen d.listing false

abbrev pub seen : Value → Seen
seen = fold-Value Seen Bool Bool seen_value seen_dir seen_file

-- fields somewhere in the value have the class of a File or Directory
abbrev pub has_class : Value → Bool
has_class v = (seen v).1

abbrev pub file_class : FileVal → Bool
file_class = fold-FileVal Seen Bool Bool seen_value seen_dir seen_file

abbrev pub dir_class : DirVal → Bool
dir_class = fold-DirVal Seen Bool Bool seen_value seen_dir seen_file

-- the object is itself such fields
abbrev pub is_readable : List (Name × Value) → Bool
is_readable values = not (has_class (value.Fields values)) && is_object_within_limit values
