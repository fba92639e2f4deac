-- What the definitions of this crate come to.
use Rattle.std.specs.Prelude.{List}
use Rattle.std.specs.List.Sorted.{IsPermutation, IsSortedByKey, IsStableByKey}
use Rattle.plain_data.specs.ByName.{name_cmp}
use Rattle.serde_json.specs.Data.{Data}
use Rattle.cwl_value.specs.Json.{name_in, by_name}

-- a listing as it is written: the entries that it has, in the order of their names, those of one name as they stood
pub record IsInOrder (entries written : List Data) : Type 0 where
  pub same : IsPermutation entries written
  pub climbs : IsSortedByKey name_in name_cmp written
  pub stands : IsStableByKey name_in name_cmp entries written

abbrev pub ListingsAreInOrder : Type 0
ListingsAreInOrder = (entries : List Data) → IsInOrder entries (by_name entries)
