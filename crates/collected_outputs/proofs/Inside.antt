-- Outputs hold only what was found in their job's folder, under names there, and no contents.
use Rattle.std.proofs.Common.{◌≡◌, Bool, true, false, true≢false, not, is_some, List, Ok, refl, sym, subst}
use Rattle.std.specs.List.{All}
use Rattle.std.specs.Map.{values_of}
use Rattle.std.proofs.lemmas.List.Elements.{All-nil}
use Rattle.std.proofs.lemmas.Map.Views.{All-values-insert_entry}
use Rattle.plain_data.specs.ByName.{name_cmp}
use Rattle.cwl_process.specs.declared.tool.ToolOutput.{ToolOutput}
use Rattle.cwl_value.specs.declared.place.Place.{Place}
use Rattle.cwl_value.specs.declared.place.Place.TheVariants.{Nowhere, Url, Path, Made}
use Rattle.cwl_value.specs.declared.value.Value.{Value}
use Rattle.collected_outputs.specs.Checked.{is_found, all_found, bare}
use Rattle.collected_outputs.specs.Collected.{IsCollected}
use Rattle.collected_outputs.specs.Laws.{EachFileWasFound, EachPlaceIsAName, ContentsAreDropped, is_name}
use Rattle.collected_outputs.specs.Listing.{Listing}
use Rattle.collected_outputs.specs.Matched.{Name}
use Rattle.collected_outputs.specs.Object.{Named, written}
use Rattle.collected_outputs.specs.Outputs.{Left, value_beside}
use Rattle.collected_outputs.specs.Throughout.{FileTest, DirTest, all_places, has_no_contents}
use Rattle.collected_outputs.proofs.Collecting.{of_all, nothing_known}
use Rattle.collected_outputs.proofs.Throughout.{without_contents}

abbrev file_found : Listing → FileTest
file_found listing f = is_found listing f.place false

abbrev dir_found : Listing → DirTest
dir_found listing d = is_found listing d.place true

-- what holds without contents of each value that was found holds of each output
each : (left : Left) (P : Value → Type 0) → ((v : Value) → all_found left.listing v ≡ true → P (bare v)) → (outputs : List (Name × ToolOutput)) (values : Named)
    → IsCollected left outputs (Ok values) → All P (values_of values)
each left P holds = of_all left (λ output v. Unit {0}) (λ outputs values. All P (values_of values)) (All-nil P)
    (λ done values output v before kept. All-values-insert_entry name_cmp output.0 v P values before (subst P (sym kept.bare) (holds kept.before kept.found)))
    (λ apart output names. nothing_known (value_beside left output.1 names)) (λ output o. nothing_known (written left.listing o))

pub each_found : EachFileWasFound
each_found left = each left (λ v. all_found left.listing v ≡ true)
    (without_contents (file_found left.listing) (file_found left.listing) (dir_found left.listing) (dir_found left.listing) (λ f flags is. is) (λ d flags is. is))

-- what was found has a name
named : (listing : Listing) (p : Place) (is_dir : Bool) → is_found listing p is_dir ≡ true → is_name p ≡ true
named listing Nowhere is_dir is = absurd (true≢false (sym is))
named listing (Url name) is_dir is = refl
named listing (Path path) is_dir is = absurd (true≢false (sym is))
named listing (Made job name) is_dir is = absurd (true≢false (sym is))

pub each_name : EachPlaceIsAName
each_name left = each left (λ v. all_places is_name v ≡ true)
    (without_contents (file_found left.listing) (λ f. is_name f.place) (dir_found left.listing) (λ d. is_name d.place)
    (λ f flags is. named left.listing f.place false is) (λ d flags is. named left.listing d.place true is))

pub no_contents : ContentsAreDropped
no_contents left = each left (λ v. has_no_contents v ≡ true)
    (without_contents (file_found left.listing) (λ f. not (is_some f.contents)) (dir_found left.listing) (λ d. true) (λ f flags is. refl) (λ d flags is. refl))
