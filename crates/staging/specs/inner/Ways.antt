-- The folders of groups, looked up. No public contract cites this.
use Rattle.std.specs.Prelude.{ℕ, List, [], ◌∷◌}
use Rattle.std.specs.List.{flat_map}
use Rattle.cwl_value.specs.declared.place.Place.TheVariants.{Path}
use Rattle.cwl_value.specs.declared.value.Value.{Value}
use Rattle.cwl_value.specs.declared.value.FileVal.{FileVal, out-FileVal, roll-FileVal}
use Rattle.cwl_value.specs.declared.value.DirVal.{DirVal, out-DirVal}
use Rattle.staging.specs.declared.group.Member.{Member}
use Rattle.staging.specs.declared.moving.Way.{Way}
use Rattle.staging.specs.declared.moving.Way.TheVariants as way
use Rattle.staging.specs.Groups.{FolderOf, member_of, name_of, path_in, copied}
use Rattle.staging.specs.Plan.{folder_path}
use Rattle.staging.specs.inner.Indexed.{number_in}

abbrev pub folder_by : Way → FolderOf
folder_by (way.Placed index folders) group = folder_path folders.holds_others folders.dir.now (number_in index.now group)
folder_by (way.Inside folder) group = folder.now

-- what a File is copied with
abbrev pub group_at : FileVal → List Member
group_at f = member_of (out-FileVal f).place (out-FileVal f).basename ∷ flat_map (λ v. (copied v).own) (out-FileVal f).secondary

abbrev pub dir_group_at : DirVal → List Member
dir_group_at d = member_of (out-DirVal d).place (out-DirVal d).basename ∷ []

-- a File in a folder, beside these
abbrev pub file_as : List ℕ → List Value → FileVal → FileVal
file_as folder secondary f = roll-FileVal (record (out-FileVal f) { place = Path (path_in folder (name_of (out-FileVal f).basename)); secondary = secondary })
