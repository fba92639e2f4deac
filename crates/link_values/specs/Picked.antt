-- What a pick takes of a value (CWL v1.2, Workflow, "PickValueMethod"). A value that is no list counts as a list of one.
use Rattle.std.specs.Prelude.{List, [], ◌∷◌, Bool, true, false, Option, Some, None, Ok, Err}
use Rattle.std.specs.List.{filter}
use Rattle.cwl_value.specs.declared.value.DirVal.{DirVal}
use Rattle.cwl_value.specs.declared.value.FileVal.{FileVal}
use Rattle.cwl_value.specs.declared.value.Value.{Value, out-Value}
use Rattle.cwl_value.specs.declared.value.Value.TheOpen.{Value-F}
use Rattle.cwl_process.specs.declared.links.Pick.{Pick}
use Rattle.cwl_process.specs.declared.links.Pick.TheVariants.{FirstNonNull, TheOnlyNonNull, AllNonNull}
use Rattle.link_values.specs.declared.fault.LinkFault.TheVariants.{NoneNonNull, SeveralNonNull}
use Rattle.link_values.specs.Merged.{items_or_one, list_of}
use Rattle.link_values.specs.Refused.{Gives}

abbrev pub form_is_something : Value-F Value DirVal FileVal → Bool
form_is_something Value-F.Null = false
form_is_something _ = true

abbrev pub is_something : Value → Bool
is_something value = form_is_something (out-Value value)

-- the values that a pick may take: those that are not null, in their order
abbrev pub choices : Value → List Value
choices value = filter is_something (items_or_one value)

-- the first value; L1 where there is none
abbrev pub the_first : List Value → Gives Value
the_first [] = Err NoneNonNull
the_first (value ∷ values) = Ok value

-- the one value; L1 where there is none, L2 where there are several
abbrev pub the_only : List Value → Gives Value
the_only [] = Err NoneNonNull
the_only (value ∷ []) = Ok value
the_only (value ∷ (other ∷ values)) = Err SeveralNonNull

abbrev pub picked : Option Pick → Value → Gives Value
picked None value = Ok value
picked (Some FirstNonNull) value = the_first (choices value)
picked (Some TheOnlyNonNull) value = the_only (choices value)
picked (Some AllNonNull) value = Ok (list_of (choices value))
