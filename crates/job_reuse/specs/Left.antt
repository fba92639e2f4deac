-- What a job's child leaves behind, and what it was given, as jobs of a run have it (CWL v1.2, Command Line Tool, "Output binding").
use Rattle.std.specs.Prelude.{◌≡◌, Bool, true, IsTrue, not, List, All}
use Rattle.std.specs.Map.{values_of}
use Rattle.cwl_value.specs.declared.place.Place.{Place}
use Rattle.collected_outputs.specs.Laws.{is_name as is_name_there}
use Rattle.collected_outputs.specs.Listing.{are_paths, listing_of}
use Rattle.collected_outputs.specs.Outputs.{Left}
use Rattle.collected_outputs.specs.Patterns.{runtime}
use Rattle.collected_outputs.specs.Throughout.{all_places}
use Rattle.staging.specs.declared.found.Found.{Found}

-- a place that is no name in the job's folder
abbrev pub is_elsewhere : Place → Bool
is_elsewhere place = not (is_name_there place)

-- what was found has paths below the folder, and no File of the inputs stands at such a path: they are copies, elsewhere
pub record IsLeftBy (found : List Found) (left : Left) : Type 0 where
  pub listed : left.listing ≡ listing_of found
  pub paths : IsTrue (are_paths found)
  pub elsewhere : All (λ v. all_places is_elsewhere v ≡ true) (values_of left.inputs)
  pub runtime : left.runtime ≡ runtime
