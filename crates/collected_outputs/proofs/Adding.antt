-- A File with the file that is to be added beside it.
use Rattle.std.proofs.Common.{◌≡◌, Bool, true, false, Option, Some, None, Ok, refl, sym, ap, ◌∙◌}
use Rattle.std.specs.Option.{option_to_list}
use Rattle.cwl_process.specs.declared.tool.SecondaryFile.{SecondaryFile}
use Rattle.cwl_value.specs.declared.place.Place.{Place}
use Rattle.cwl_value.specs.declared.place.Place.TheVariants.{Nowhere, Url, Path, Made}
use Rattle.cwl_value.specs.declared.value.FileVal.{FileVal}
use Rattle.file_values.specs.Names.{secondary_name}
use Rattle.collected_outputs.specs.Beside.{added, added_at, is_there, stands, with_beside}
use Rattle.collected_outputs.specs.Gives.{and_map}
use Rattle.collected_outputs.specs.Listing.{Listing}
use Rattle.collected_outputs.specs.Matched.{Name}
use Rattle.collected_outputs.specs.Values.{value_under, basename_of}
use Rattle.collected_outputs.specs.inner.Names.{wanted, wanted_at}

abbrev pub taking : Listing → FileVal → Option Name → FileVal
taking listing f None = f
taking listing f (Some path) = with_beside f (option_to_list (value_under listing path))

by_tests : (listing : Listing) (f : FileVal) (required : Bool) (primary name : Name) (there stand : Bool) → is_there listing primary name ≡ there → stands name f ≡ stand
    → added listing f required primary name ≡ and_map (taking listing f) (wanted listing f required primary name)
by_tests listing f required primary name true true is at = rw (is, at) refl
by_tests listing f required primary name true false is at = rw (is, at) refl
by_tests listing f true primary name false stand is at = rw is refl
by_tests listing f false primary name false stand is at = rw is refl

pub added_is : (listing : Listing) (f : FileVal) (declared : SecondaryFile) (place : Place) → added_at listing f declared place ≡ and_map (taking listing f) (wanted_at listing f declared place)
added_is listing f declared Nowhere = refl
added_is listing f declared (Path path) = refl
added_is listing f declared (Made job name) = refl
added_is listing f declared (Url primary) =
    let name = secondary_name declared.pattern (basename_of primary) in
    by_tests listing f declared.required primary name (is_there listing primary name) (stands name f) refl refl

pub added_none : (listing : Listing) (f : FileVal) (declared : SecondaryFile) (place : Place) → wanted_at listing f declared place ≡ Ok None → added_at listing f declared place ≡ Ok f
added_none listing f declared place is = added_is listing f declared place ∙ ap (and_map (taking listing f)) is

pub added_one : (listing : Listing) (f : FileVal) (declared : SecondaryFile) (place : Place) (path : Name) (g : FileVal) → wanted_at listing f declared place ≡ Ok (Some path) → g ≡ with_beside f (option_to_list (value_under listing path))
    → added_at listing f declared place ≡ Ok g
added_one listing f declared place path g is same = added_is listing f declared place ∙ ap (and_map (taking listing f)) is ∙ ap Ok (sym same)
