-- Where the Files and Directories of a value stand, in their order: each before those beside it or in it.
use Rattle.std.specs.Prelude.{ℕ, List, [], ◌∷◌, flat_map, unwrap_or}
use Rattle.plain_data.specs.ByName.{map_values}
use Rattle.cwl_value.specs.declared.place.Place.{Place}
use Rattle.cwl_value.specs.declared.value.Value.{Value, fold-Value}
use Rattle.cwl_value.specs.declared.value.Value.TheOpen.{Value-F, FileVal-F, DirVal-F}

-- one after another
abbrev pub joined : List (List Place) → List Place
joined = flat_map (λ each. each)

abbrev pub value_places : Value-F (List Place) (List Place) (List Place) → List Place
value_places (Value-F.FileVal places) = places
value_places (Value-F.DirVal places) = places
value_places (Value-F.List each) = joined each
value_places (Value-F.Fields each) = flat_map (λ e. e.1) each
value_places _ = []

abbrev pub file_places : FileVal-F (List Place) (List Place) (List Place) → List Place
file_places f = f.place ∷ joined f.secondary

abbrev pub dir_places : DirVal-F (List Place) (List Place) (List Place) → List Place
dir_places d = d.place ∷ joined (unwrap_or d.listing [])

abbrev pub places : Value → List Place
places = fold-Value (List Place) (List Place) (List Place) value_places dir_places file_places

-- of values by name
abbrev pub fields_places : List (List ℕ × Value) → List Place
fields_places fields = flat_map (λ e. e.1) (map_values places fields)
