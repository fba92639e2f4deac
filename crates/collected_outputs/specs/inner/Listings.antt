-- How a listing grows. No public contract cites this.
use Rattle.std.specs.Prelude.{is_some, if◌then◌else◌}
use Rattle.plain_data.specs.ByName.{value_at, with_value}
use Rattle.staging.specs.declared.found.Found.{Found}
use Rattle.collected_outputs.specs.Listing.{Listing, entry_of}

-- one more entry, unless its name stands
abbrev pub with_entry : Found → Listing → Listing
with_entry f listing = (if is_some (value_at f.name listing) then listing else with_value f.name ((entry_of f).1) listing)
