-- How deep the JSON of Files, Directories and named values nests.
use Rattle.std.proofs.Common.{◌≡◌, ℕ, suc, List, [], ◌∷◌, map, Option, Some, None, option_map, codes, refl, sym, ap, ◌∙◌}
use Rattle.std.proofs.lemmas.Simd.{map-map}
use Rattle.plain_data.specs.ByName.{IsByName, map_values}
use Rattle.plain_data.proofs.ByName.{by_name_mapped}
use Rattle.serde_json.specs.Data.{Data, Members, no_members, string, depth, members_depth}
use Rattle.cwl_value.specs.Json.{json_of, file_data, dir_data, items_json, fields_json, file_json, dir_json, with_member, listing_json, text_json, location_json, size_json, unless_empty}
use Rattle.cwl_value.specs.NameParts.{nameroot, nameext}
use Rattle.cwl_value.specs.declared.place.Place.{Place}
use Rattle.cwl_value.specs.declared.place.Place.TheVariants as place
use Rattle.cwl_value.specs.declared.value.Value.{Value}
use Rattle.cwl_value.specs.declared.value.Value.TheOpen.{FileVal-F, DirVal-F}
use Rattle.cwl_value.specs.declared.value.FileVal.{FileVal, out-FileVal, roll-out-FileVal}
use Rattle.cwl_value.specs.declared.value.DirVal.{DirVal, out-DirVal, roll-out-DirVal}
use Rattle.cwl_value.proofs.JsonOf.{file_data-roll, dir_data-roll}
use Rattle.value_depth.proofs.Depths.{deepest, IsFlat, depth_if_any, with_flat, with_after, by_name_deepest, object_deepest}

text_flat : (text : Option (List ℕ)) → depth_if_any (text_json text) ≡ 0
text_flat None = refl
text_flat (Some text) = refl

place_flat : (at : Place) → depth_if_any (location_json at) ≡ 0
place_flat place.Nowhere = refl
place_flat (place.Url location) = refl
place_flat (place.Path path) = refl
place_flat (place.Made job name) = refl

size_flat : (size : Option ℕ) → depth_if_any (size_json size) ≡ 0
size_flat None = refl
size_flat (Some size) = refl

-- the members of a File before its secondary files
abbrev first_members : FileVal-F Data Data Data → Members
first_members f =
    with_member (codes "nameroot") (text_json (option_map nameroot f.basename))
    (with_member (codes "nameext") (text_json (option_map nameext f.basename))
    (with_member (codes "location") (location_json f.place)
    (with_member (codes "contents") (text_json f.contents)
    (with_member (codes "class") (Some (string (codes "File")))
    (with_member (codes "checksum") (text_json f.checksum)
    (with_member (codes "basename") (text_json f.basename) no_members))))))

first_flat : (f : FileVal-F Data Data Data) → IsFlat (first_members f)
first_flat f =
    with_flat (codes "nameroot") (text_json (option_map nameroot f.basename)) _ (text_flat _)
    (with_flat (codes "nameext") (text_json (option_map nameext f.basename)) _ (text_flat _)
    (with_flat (codes "location") (location_json f.place) _ (place_flat f.place)
    (with_flat (codes "contents") (text_json f.contents) _ (text_flat f.contents)
    (with_flat (codes "class") (Some (string (codes "File"))) _ refl
    (with_flat (codes "checksum") (text_json f.checksum) _ (text_flat f.checksum)
    (with_flat (codes "basename") (text_json f.basename) no_members (text_flat f.basename) refl))))))

file_depth : (f : FileVal-F Data Data Data) → depth (file_json f) ≡ suc (depth_if_any (unless_empty f.secondary))
file_depth f =
    ap suc (with_after (codes "secondaryFiles") (unless_empty f.secondary) (codes "size") (size_json f.size) (first_members f) refl (size_flat f.size) (first_flat f))

abbrev first_of_dir : DirVal-F Data Data Data → Members
first_of_dir d = with_member (codes "class") (Some (string (codes "Directory"))) (with_member (codes "basename") (text_json d.basename) no_members)

first_of_dir_flat : (d : DirVal-F Data Data Data) → IsFlat (first_of_dir d)
first_of_dir_flat d = with_flat (codes "class") (Some (string (codes "Directory"))) _ refl (with_flat (codes "basename") (text_json d.basename) no_members (text_flat d.basename) refl)

dir_depth : (d : DirVal-F Data Data Data) → depth (dir_json d) ≡ suc (depth_if_any (listing_json d.listing))
dir_depth d = ap suc (with_after (codes "listing") (listing_json d.listing) (codes "location") (location_json d.place) (first_of_dir d) refl (place_flat d.place) (first_of_dir_flat d))

-- a listing is written in the order of names
listing_depth : (ds : List Data) → depth_if_any (listing_json (Some ds)) ≡ suc (deepest ds)
listing_depth ds = ap suc (by_name_deepest ds)

pub fields_deepest : (es : List (List ℕ × Value)) → IsByName es → members_depth (fields_json es) ≡ deepest (map (λ e. json_of e.1) es)
fields_deepest es order = object_deepest (map_values json_of es) (by_name_mapped json_of es order) ∙ ap deepest (map-map (λ (m : List ℕ × Data). m.1) (λ (e : List ℕ × Value). (e.0, json_of e.1)) es)

-- a File is a level, and its secondary files are two at least
file_deep : (f : FileVal) → depth (file_data f) ≡ suc (depth_if_any (unless_empty (items_json f.secondary)))
file_deep f = ap (λ x. depth (file_data x)) (sym (roll-out-FileVal f)) ∙ ap depth (file_data-roll (out-FileVal f)) ∙ file_depth _

some_files : (vs : List Value) → (vs ≡ [] → ⊥) → depth_if_any (unless_empty (items_json vs)) ≡ suc (deepest (items_json vs))
some_files [] some = absurd (some refl)
some_files (v ∷ vs) some = refl

pub some_files_deep : (f : FileVal) → (f.secondary ≡ [] → ⊥) → depth (file_data f) ≡ suc (suc (deepest (items_json f.secondary)))
some_files_deep f some = file_deep f ∙ ap suc (some_files f.secondary some)

-- so is a Directory, with its listing
dir_deep : (d : DirVal) → depth (dir_data d) ≡ suc (depth_if_any (listing_json (option_map items_json d.listing)))
dir_deep d = ap (λ x. depth (dir_data x)) (sym (roll-out-DirVal d)) ∙ ap depth (dir_data-roll (out-DirVal d)) ∙ dir_depth _

pub listed_deep : (d : DirVal) (vs : List Value) → d.listing ≡ Some vs → depth (dir_data d) ≡ suc (suc (deepest (items_json vs)))
listed_deep d vs some = dir_deep d ∙ ap (λ o. suc (depth_if_any (listing_json (option_map items_json o)))) some ∙ ap suc (listing_depth (items_json vs))
