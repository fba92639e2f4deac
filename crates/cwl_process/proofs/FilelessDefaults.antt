-- Nothing is wrong with defaults without Files and Directories.
use Rattle.std.proofs.Common.{◌≡◌, ℕ, List, [], ◌∷◌, true, Option, Some, None, refl, ap, ◌∙◌, codes}
use Rattle.std.specs.Prelude.{if◌then◌else◌, is_some}
use Rattle.std.specs.Option.{option_map_or}
use Rattle.std.proofs.lemmas.Bool.{and_parts}
use Rattle.serde_json.specs.Data.{Data, null, boolean, number, string, array, object, Items, no_items, item, Members, no_members, member}
use Rattle.serde_json.specs.Find.{get}
use Rattle.cwl_value.specs.Fileless.{stands_fileless}
use Rattle.cwl_value.proofs.WithoutFiles.{fileless_read}
use Rattle.document_table.specs.Entries.{entries, listed_entries, mapped_entries}
use Rattle.document_table.specs.Faults.{here, under}
use Rattle.document_table.specs.Repeats.{name_in, subject_name}
use Rattle.document_table.specs.Walk.{or_else}
use Rattle.document_table.specs.declared.fault.Cause.TheVariants.{WrongForm}
use Rattle.document_table.specs.declared.fault.DocumentFault.{DocumentFault}
use Rattle.document_table.specs.declared.form.Kind.{Kind}
use Rattle.cwl_process.specs.FilelessDefaults.{has_fileless_default, have_fileless_defaults, items_have_fileless_defaults, members_have_fileless_defaults}
use Rattle.cwl_process.specs.FirstFaults.{at_field, first_in}
use Rattle.cwl_process.specs.Parameters.{if_read}
use Rattle.cwl_process.specs.Together.{default_fault, is_value}

pub fileless_is_value : (d : Data) → stands_fileless d ≡ true → is_value d ≡ true
fileless_is_value d is = let found = fileless_read d is in ap (λ r. is_some (if_read r)) found.1

-- whatever is looked for in an object, and not found where its default is so
module _ (fault_of : Data → Option DocumentFault) (fine : (d : Data) → has_fileless_default d ≡ true → fault_of d ≡ None) where
  one_more : (name : List ℕ) (d : Data) (es : List (List ℕ × Data)) → fault_of d ≡ None → first_in fault_of es ≡ None → first_in fault_of ((name, d) ∷ es) ≡ None
  one_more name d es here rest = ap (λ found. or_else (at_field name found) (first_in fault_of es)) here ∙ rest

  if_named : (d : Data) (es : List (List ℕ × Data)) (o : Option (List ℕ)) → fault_of d ≡ None → first_in fault_of es ≡ None → first_in fault_of (option_map_or (λ name. (name, d) ∷ es) o es) ≡ None
  if_named d es None here rest = rest
  if_named d es (Some name) here rest = one_more name d es here rest

  none_listed : (kind : Kind) (ds : Items) → items_have_fileless_defaults ds ≡ true → first_in fault_of (listed_entries kind ds) ≡ None
  none_listed kind no_items is = refl
  none_listed kind (item d ds) is =
      let parts = and_parts (has_fileless_default d) (items_have_fileless_defaults ds) is in
      if_named d (listed_entries kind ds) (name_in kind d) (fine d parts.0) (none_listed kind ds parts.1)

  none_mapped : (kind : Kind) (ms : Members) → members_have_fileless_defaults ms ≡ true → first_in fault_of (mapped_entries kind ms) ≡ None
  none_mapped kind no_members is = refl
  none_mapped kind (member key d ms) is =
      let parts = and_parts (has_fileless_default d) (members_have_fileless_defaults ms) is in
      one_more (subject_name kind key) d (mapped_entries kind ms) (fine d parts.0) (none_mapped kind ms parts.1)

  pub none_first : (kind : Kind) (d : Data) → have_fileless_defaults d ≡ true → first_in fault_of (entries kind d) ≡ None
  none_first kind null is = refl
  none_first kind (boolean b) is = refl
  none_first kind (number n) is = refl
  none_first kind (string s) is = refl
  none_first kind (array ds) is = none_listed kind ds is
  none_first kind (object ms) is = none_mapped kind ms is

found_right : (o : Option Data) → option_map_or stands_fileless o true ≡ true → option_map_or is_value o true ≡ true
found_right None is = refl
found_right (Some d) is = fileless_is_value d is

default_right : (d : Data) → has_fileless_default d ≡ true → default_fault d ≡ None
default_right d is = ap (λ right. if right then None else Some (under (codes "default") (here WrongForm))) (found_right (get (codes "default") d) is)

pub no_default_fault : (kind : Kind) (d : Data) → have_fileless_defaults d ≡ true → first_in default_fault (entries kind d) ≡ None
no_default_fault = none_first default_fault default_right
