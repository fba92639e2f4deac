-- The files of a row by name. No public contract cites this.
use Rattle.std.specs.Prelude.{ℕ, List, if◌then◌else◌, is_some}
use Rattle.plain_data.specs.ByName.{map_values, value_at, with_value}
use Rattle.collected_outputs.specs.Listing.{Listing, entry_of}
use Rattle.staging.specs.declared.found.Found.{Found}

abbrev pub Index : Type 0
Index = List (List ℕ × Found)

-- as `collected_outputs` looks names up
abbrev pub listing_by : Index → Listing
listing_by index = map_values (λ (f : Found). (entry_of f).1) index

-- one more, unless its name stands
abbrev pub with_found : Found → Index → Index
with_found f index = (if is_some (value_at f.name index) then index else with_value f.name f index)
