use Rattle.std.proofs.Common.{◌≡◌, ℕ, List, Option, Some, option_map, IfOk, sym, ap, subst, ◌∙◌}
use Rattle.plain_data.proofs.ByName.{by_name_built}
use Rattle.cwl_value.specs.declared.value.Value.{Value}
use Rattle.cwl_value.specs.declared.value.Value as value
use Rattle.cwl_value.specs.declared.place.Place.TheVariants.{Path}
use Rattle.cwl_value.specs.declared.value.FileVal.{FileVal, out-FileVal}
use Rattle.cwl_value.specs.declared.value.DirVal.{DirVal, out-DirVal, roll-DirVal}
use Rattle.staging.specs.Groups.{FolderOf, copied, copied_file, items_moved}
use Rattle.staging.specs.inner.Ways.{folder_by, group_at, file_as}
use Rattle.staging.proofs.Fileless.{fileless_moved}
use Rattle.staging.proofs.Moved.{list_moved, fields_moved_level, file_moved, dir_path, dir_moved}
use Rattle.staging.proofs.moving.+moving.Goals as goal

pub moved-returns-in_ok-moved_items-in-List-2 : goal.moved-returns-in_ok-moved_items-in-List-2
moved-returns-in_ok-moved_items-in-List-2 t c =
    let is : c.of_items.result ≡ (copied c.args.value.now).moved (folder_by c.args.way) =
    c.of_items.ensures
    ∙ ap value.List (c.in_ok-moved_items-in-List-2.ensures ∙ ap (items_moved (folder_by c.args.way)) c.as_items.ensures)
    ∙ sym (list_moved (folder_by c.args.way) c.in-List-2.items) ∙ ap (λ (v : Value). (copied v).moved (folder_by c.args.way)) (sym c.in-List-2.is)
    in
    subst (λ (v : Value). IfOk c.shared-in-List-2.result (λ found. found ≡ v)) is c.shared-in-List-2.ensures

pub moved-returns-in_ok-clone_in-in-List : goal.moved-returns-in_ok-clone_in-in-List
moved-returns-in_ok-clone_in-in-List t c =
    subst (λ (v : Value). IfOk c.shared.result (λ found. found ≡ v))
    (c.in_ok-clone_in-in-List.ensures ∙ sym (fileless_moved (folder_by c.args.way) c.args.value.now (sym c.if-not-holds_files.ensures)))
    c.shared.ensures

pub moved-returns-in_ok-moved_fields-in-Fields : goal.moved-returns-in_ok-moved_fields-in-Fields
moved-returns-in_ok-moved_fields-in-Fields t c =
    ap value.Fields c.in_ok-moved_fields-in-Fields.ensures
    ∙ sym (fields_moved_level (folder_by c.args.way) c.in-Fields.fields)
    ∙ ap (λ (v : Value). (copied v).moved (folder_by c.args.way)) (sym c.in-Fields.is)

pub moved_fields-from_sorted-requires : goal.moved_fields-from_sorted-requires
moved_fields-from_sorted-requires t c = by_name_built (λ (v : Value). (copied v).moved (folder_by c.args.way)) _ _ _ c.loop-field.invariant c.as_slice-field-items.ensures.order

pub moved_file-returns : goal.moved_file-returns
moved_file-returns t c =
    let f = c.args.file.now in
    let fo : FolderOf = folder_by c.args.way in
    let folder : c.as_str.result.now ≡ fo (group_at f) = c.as_str.ensures.value ∙ c.in_ok-folder.ensures in
    let again : c.as_str-2.result.now ≡ fo (group_at f) = c.as_str-2.ensures.value ∙ c.in_ok-folder.ensures in
    let beside : c.in_ok-secondary.secondary ≡ items_moved (λ _. fo (group_at f)) (out-FileVal f).secondary = c.in_ok-secondary.ensures ∙ ap (λ (p : List ℕ). items_moved (λ _. p) (out-FileVal f).secondary) folder in
    let is : file_as c.as_str-2.result.now c.in_ok-secondary.secondary f ≡ (copied_file f).moved fo =
    ap (λ (p : List ℕ). file_as p c.in_ok-secondary.secondary f) again ∙ ap (λ (vs : List Value). file_as (fo (group_at f)) vs f) beside ∙ sym (file_moved fo f)
    in
    subst (λ (x : FileVal). IfOk c.file_in.result (λ found. found ≡ x)) is c.file_in.ensures

pub moved_dir-returns-in_ok-listing-in-Some : goal.moved_dir-returns-in_ok-listing-in-Some
moved_dir-returns-in_ok-listing-in-Some t c =
    let d = c.args.dir.now in
    let fo : FolderOf = folder_by c.args.way in
    let path : c.in_ok-path.path ≡ dir_path fo d = c.in_ok-path.ensures in
    let inside : c.as_str.result.now ≡ dir_path fo d = c.as_str.ensures.bytes ∙ path in
    let listing : c.in_ok-listing-in-Some.listing ≡ items_moved (λ _. dir_path fo d) c.in-Some.entries = c.in_ok-listing-in-Some.ensures ∙ ap (λ (p : List ℕ). items_moved (λ _. p) c.in-Some.entries) inside in
    let made : List ℕ → Option (List ℕ) → Option (List Value) → DirVal = λ p n l. roll-DirVal (record { place = Path p; basename = n; listing = l }) in
    ap (λ p. made p c.in_ok-basename.basename (Some c.in_ok-listing-in-Some.listing)) path
    ∙ ap (λ n. made (dir_path fo d) n (Some c.in_ok-listing-in-Some.listing)) c.in_ok-basename.ensures
    ∙ ap (λ (l : List Value). made (dir_path fo d) (out-DirVal d).basename (Some l)) listing
    ∙ ap (λ (o : Option (List Value)). made (dir_path fo d) (out-DirVal d).basename (option_map (items_moved (λ _. dir_path fo d)) o)) (sym c.in-Some.is)
    ∙ sym (dir_moved fo d)
