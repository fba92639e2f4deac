-- The value that several links give together (CWL v1.2, Workflow, "LinkMergeMethod").
use Rattle.std.specs.Prelude.{List, [], ◌∷◌, Option, Some, None}
use Rattle.std.specs.List.{flat_map}
use Rattle.cwl_value.specs.declared.value.DirVal.{DirVal}
use Rattle.cwl_value.specs.declared.value.FileVal.{FileVal}
use Rattle.cwl_value.specs.declared.value.Value.{Value, out-Value, roll-Value}
use Rattle.cwl_value.specs.declared.value.Value.TheOpen.{Value-F}
use Rattle.cwl_process.specs.declared.links.Merge.{Merge}
use Rattle.cwl_process.specs.declared.links.Merge.TheVariants.{Nested, Flattened}

abbrev pub list_of : List Value → Value
list_of values = roll-Value (Value-F.List values)

abbrev pub form_items : Value-F Value DirVal FileVal → Value → List Value
form_items (Value-F.List items) _ = items
form_items _ value = value ∷ []

-- the items of a list; a value that is no list alone
abbrev pub items_or_one : Value → List Value
items_or_one value = form_items (out-Value value) value

-- without a method: null for no link, its value for one link, else as merge_nested
abbrev pub merged : Option Merge → List Value → Value
merged None [] = roll-Value Value-F.Null
merged None (value ∷ []) = value
merged None values = list_of values
merged (Some Nested) values = list_of values
merged (Some Flattened) values = list_of (flat_map items_or_one values)
