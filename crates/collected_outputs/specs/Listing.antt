-- What a scan found below a job's output folder, by name.
use Rattle.std.specs.Prelude.{ℕ, ◌==◌, Bool, List, map}
use Rattle.std.specs.List.{list_all, slice_split}
use Rattle.cwl_value.specs.Reading.{is_name}
use Rattle.plain_data.specs.ByName.{by_name}
use Rattle.staging.specs.declared.found.Found.{Found}
use Rattle.collected_outputs.specs.declared.listing.Entry.{Entry}

abbrev pub Listing : Type 0
Listing = List (List ℕ × Entry)

abbrev pub entry_of : Found → List ℕ × Entry
entry_of f = (f.name, record { is_dir = f.is_dir; size = f.size; sum = f.sum })

-- by name; of two that have one name, the first
abbrev pub listing_of : List Found → Listing
listing_of found = by_name (map entry_of found)

-- whether this is the path of what stands below a folder: names with slashes between them
abbrev pub is_path : List ℕ → Bool
is_path path = list_all is_name (slice_split (λ c. c == 47) path)

-- whether each of these stands below the folder that was scanned
abbrev pub are_paths : List Found → Bool
are_paths found = list_all (λ entry. is_path entry.name) found
