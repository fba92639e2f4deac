-- A value without Files and Directories stays as it is where values get their paths.
use Rattle.std.proofs.Common.{◌≡◌, false, rules}
use Rattle.cwl_value.specs.Fileless.{holds_files}
use Rattle.cwl_value.proofs.Unmoved.{Descends, fileless_stays}
use Rattle.cwl_value.specs.declared.value.Value.{Value, the_lemmas}
use Rattle.staging.specs.Groups.{FolderOf, copied}
use Rattle.staging.proofs.Moved.{fields_moved_level, list_moved}

descends : (folder_of : FolderOf) → Descends (λ (v : Value). (copied v).moved folder_of)
descends folder_of = record {
  null = search (rules, the_lemmas);
  boolean = λ b. search (rules, the_lemmas);
  whole = λ n. search (rules, the_lemmas);
  text = λ s. search (rules, the_lemmas);
  list = list_moved folder_of;
  fields = fields_moved_level folder_of;
}

pub fileless_moved : (folder_of : FolderOf) (v : Value) → holds_files v ≡ false → (copied v).moved folder_of ≡ v
fileless_moved folder_of = fileless_stays (λ (v : Value). (copied v).moved folder_of) (descends folder_of)
