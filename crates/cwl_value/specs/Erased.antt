-- A value without its places: equal contents, wherever they are.
use Rattle.std.specs.Prelude.{ℕ, List, map}
use Rattle.cwl_value.specs.Placed.{dir_moved, dir_value_moved, fields_moved, file_moved, file_value_moved, value_moved}
use Rattle.cwl_value.specs.declared.place.Place.{Place}
use Rattle.cwl_value.specs.declared.place.Place.TheVariants.{Nowhere}
use Rattle.cwl_value.specs.declared.value.Value.{Value}
use Rattle.cwl_value.specs.declared.value.Value.TheOpen.{FileVal-F, DirVal-F}
use Rattle.cwl_value.specs.declared.value.FileVal.{FileVal}
use Rattle.cwl_value.specs.declared.value.DirVal.{DirVal}

abbrev pub no_place : Place → Place
no_place place = Nowhere

abbrev pub placeless_file : FileVal-F Value DirVal FileVal → FileVal
placeless_file = file_moved no_place

abbrev pub placeless_dir : DirVal-F Value DirVal FileVal → DirVal
placeless_dir = dir_moved no_place

-- every place of the value becomes `Nowhere`
abbrev pub erased : Value → Value
erased = value_moved no_place

abbrev pub file_erased : FileVal → FileVal
file_erased = file_value_moved no_place

abbrev pub dir_erased : DirVal → DirVal
dir_erased = dir_value_moved no_place

abbrev pub items_erased : List Value → List Value
items_erased = map erased

abbrev pub fields_erased : List (List ℕ × Value) → List (List ℕ × Value)
fields_erased = fields_moved no_place
