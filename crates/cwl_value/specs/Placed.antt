-- Values elsewhere: each File and Directory in them, at any depth, at another place, and nothing else changed.
use Rattle.std.specs.Prelude.{ℕ, List}
use Rattle.plain_data.specs.ByName.{map_values}
use Rattle.cwl_value.specs.declared.place.Place.{Place}
use Rattle.cwl_value.specs.declared.value.Value.{Value, fold-Value, roll-Value}
use Rattle.cwl_value.specs.declared.value.Value.TheOpen.{FileVal-F, DirVal-F}
use Rattle.cwl_value.specs.declared.value.FileVal.{FileVal, roll-FileVal, fold-FileVal}
use Rattle.cwl_value.specs.declared.value.DirVal.{DirVal, roll-DirVal, fold-DirVal}

abbrev pub file_moved : (Place → Place) → FileVal-F Value DirVal FileVal → FileVal
file_moved move f = roll-FileVal (record f { place = move f.place })

abbrev pub dir_moved : (Place → Place) → DirVal-F Value DirVal FileVal → DirVal
dir_moved move d = roll-DirVal (record d { place = move d.place })

abbrev pub value_moved : (Place → Place) → Value → Value
value_moved move = fold-Value Value DirVal FileVal roll-Value (dir_moved move) (file_moved move)

abbrev pub file_value_moved : (Place → Place) → FileVal → FileVal
file_value_moved move = fold-FileVal Value DirVal FileVal roll-Value (dir_moved move) (file_moved move)

abbrev pub dir_value_moved : (Place → Place) → DirVal → DirVal
dir_value_moved move = fold-DirVal Value DirVal FileVal roll-Value (dir_moved move) (file_moved move)

abbrev pub fields_moved : (Place → Place) → List (List ℕ × Value) → List (List ℕ × Value)
fields_moved move = map_values (value_moved move)
