-- Values at new paths, level by level.
use Rattle.std.proofs.Common.{◌≡◌, ℕ, List, [], ◌∷◌, map, option_map, Option, Some, None, refl, sym, ap, ◌∙◌, rules}
use Rattle.std.specs.List.{flat_map}
use Rattle.std.proofs.lemmas.Simd.{map-map}
use Rattle.plain_data.specs.ByName.{map_values}
use Rattle.cwl_value.specs.declared.place.Place.TheVariants.{Path}
use Rattle.cwl_value.specs.declared.value.Value.{Value, the_lemmas}
use Rattle.cwl_value.specs.declared.value.Value as value
use Rattle.cwl_value.specs.declared.value.Value.TheOpen.{FileVal-F, DirVal-F}
use Rattle.cwl_value.specs.declared.value.FileVal.{FileVal, out-FileVal, roll-FileVal}
use Rattle.cwl_value.specs.declared.value.DirVal.{DirVal, out-DirVal, roll-DirVal}
use Rattle.staging.specs.declared.group.Member.{Member}
use Rattle.staging.specs.Groups.{FolderOf, Copied, member_of, name_of, path_in, copied, copied_file, copied_dir, items_moved, fields_moved}
use Rattle.staging.specs.inner.Ways.{group_at, dir_group_at, file_as}
use Rattle.staging.proofs.Grouped.{flat_map-map, file-out}

list_level : (fo : FolderOf) (items : List Value) → (copied (value.List items)).moved fo ≡ value.List (map (λ (c : Copied Value). c.moved fo) (map copied items))
list_level fo items = search (rules, the_lemmas)

fields_level : (fo : FolderOf) (fields : List (List ℕ × Value)) → (copied (value.Fields fields)).moved fo ≡ value.Fields (map_values (λ (c : Copied Value). c.moved fo) (map_values copied fields))
fields_level fo fields = search (rules, the_lemmas)

pub list_moved : (fo : FolderOf) (items : List Value) → (copied (value.List items)).moved fo ≡ value.List (items_moved fo items)
list_moved fo items = list_level fo items ∙ ap value.List (map-map (λ (c : Copied Value). c.moved fo) copied items)

pub fields_moved_level : (fo : FolderOf) (fields : List (List ℕ × Value)) → (copied (value.Fields fields)).moved fo ≡ value.Fields (fields_moved fo fields)
fields_moved_level fo fields =
    fields_level fo fields ∙ ap value.Fields (map-map (λ (e : List ℕ × Copied Value). (e.0, e.1.moved fo)) (λ (e : List ℕ × Value). (e.0, copied e.1)) fields)

-- Files

abbrev file_group_of : FileVal-F Value DirVal FileVal → List Member
file_group_of f = member_of f.place f.basename ∷ flat_map (λ (c : Copied Value). c.own) (map copied f.secondary)

abbrev file_there : FolderOf → FileVal-F Value DirVal FileVal → FileVal
file_there fo f =
    roll-FileVal (record f { place = Path (path_in (fo (file_group_of f)) (name_of f.basename)); secondary = map (λ (c : Copied Value). c.moved (λ _. fo (file_group_of f))) (map copied f.secondary) })

file-roll : (fo : FolderOf) (f : FileVal-F Value DirVal FileVal) → (copied_file (roll-FileVal f)).moved fo ≡ file_there fo f
file-roll fo f = search (rules, the_lemmas)

file-moved-out : (fo : FolderOf) (f : FileVal) → (copied_file f).moved fo ≡ file_there fo (out-FileVal f)
file-moved-out fo f = search (rules, the_lemmas, file-roll)

group-same : (f : FileVal) → file_group_of (out-FileVal f) ≡ group_at f
group-same f = ap (λ l. member_of (out-FileVal f).place (out-FileVal f).basename ∷ l) (flat_map-map (λ (c : Copied Value). c.own) copied (out-FileVal f).secondary)

pub file_moved : (fo : FolderOf) (f : FileVal) → (copied_file f).moved fo ≡ file_as (fo (group_at f)) (items_moved (λ _. fo (group_at f)) (out-FileVal f).secondary) f
file_moved fo f =
    file-moved-out fo f
    ∙ ap (λ (g : List Member). file_as (fo g) (map (λ (c : Copied Value). c.moved (λ _. fo g)) (map copied (out-FileVal f).secondary)) f) (group-same f)
    ∙ ap (λ (vs : List Value). file_as (fo (group_at f)) vs f) (map-map (λ (c : Copied Value). c.moved (λ _. fo (group_at f))) copied (out-FileVal f).secondary)

-- what is copied with a File
pub file_group_at : (f : FileVal) (group : List Member) → (copied_file f).groups ≡ group ∷ [] → group ≡ group_at f
file_group_at f group is =
    let same : group ∷ [] ≡ file_group_of (out-FileVal f) ∷ [] = sym is ∙ file-out f in
    let one : group ≡ file_group_of (out-FileVal f) = cc in
    one ∙ group-same f

-- Directories

abbrev dir_there : FolderOf → DirVal-F Value DirVal FileVal → DirVal
dir_there fo d =
    let path = path_in (fo (member_of d.place d.basename ∷ [])) (name_of d.basename) in
    roll-DirVal (record { place = Path path; basename = d.basename; listing = option_map (map (λ (c : Copied Value). c.moved (λ _. path))) (option_map (map copied) d.listing) })

dir-roll : (fo : FolderOf) (d : DirVal-F Value DirVal FileVal) → (copied_dir (roll-DirVal d)).moved fo ≡ dir_there fo d
dir-roll fo d = search (rules, the_lemmas)

dir-out : (fo : FolderOf) (d : DirVal) → (copied_dir d).moved fo ≡ dir_there fo (out-DirVal d)
dir-out fo d = search (rules, the_lemmas, dir-roll)

-- where a Directory goes
abbrev pub dir_path : FolderOf → DirVal → List ℕ
dir_path fo d = path_in (fo (dir_group_at d)) (name_of (out-DirVal d).basename)

listing-map : (path : List ℕ) (listing : Option (List Value)) → option_map (map (λ (c : Copied Value). c.moved (λ _. path))) (option_map (map copied) listing) ≡ option_map (items_moved (λ _. path)) listing
listing-map path None = refl
listing-map path (Some vs) = ap Some (map-map (λ (c : Copied Value). c.moved (λ _. path)) copied vs)

pub dir_moved : (fo : FolderOf) (d : DirVal) → (copied_dir d).moved fo ≡ roll-DirVal (record { place = Path (dir_path fo d); basename = (out-DirVal d).basename; listing = option_map (items_moved (λ _. dir_path fo d)) (out-DirVal d).listing })
dir_moved fo d =
    dir-out fo d
    ∙ ap (λ (l : Option (List Value)). roll-DirVal (record { place = Path (dir_path fo d); basename = (out-DirVal d).basename; listing = l })) (listing-map (dir_path fo d) (out-DirVal d).listing)
