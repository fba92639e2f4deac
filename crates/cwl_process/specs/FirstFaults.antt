-- Where a fault is looked for first: in a field, in a list, and in a list or a map of objects (CWL v1.2, "Syntax"). What is wrong with a
-- value itself, `fault_of` says.
use Rattle.std.specs.Prelude.{ℕ, ◌+◌, List, [], ◌∷◌, Option, None, option_map, option_and_then}
use Rattle.std.specs.Option.{option_map_or}
use Rattle.serde_json.specs.Data.{Data, null, boolean, number, string, array, object, Items, no_items, item}
use Rattle.serde_json.specs.Find.{get}
use Rattle.document_table.specs.Entries.{entries}
use Rattle.document_table.specs.Faults.{at, under}
use Rattle.document_table.specs.Walk.{or_else}
use Rattle.document_table.specs.declared.fault.DocumentFault.{DocumentFault}
use Rattle.document_table.specs.declared.form.Kind.{Kind}

-- what is wrong with a field, seen from its object
abbrev pub at_field : List ℕ → Option DocumentFault → Option DocumentFault
at_field name fault = option_map (under name) fault

-- the first that is wrong with what is in a list or a map of objects
abbrev pub first_in : (Data → Option DocumentFault) → List (List ℕ × Data) → Option DocumentFault
first_in fault_of [] = None
first_in fault_of (e ∷ es) = or_else (at_field e.0 (fault_of e.1)) (first_in fault_of es)

abbrev pub first_at : Kind → (Data → Option DocumentFault) → List ℕ → Data → Option DocumentFault
first_at kind fault_of name d = option_map_or (λ v. at_field name (first_in fault_of (entries kind v))) (get name d) None

-- the first that is wrong with an item of a list, from that index on
abbrev pub first_item : (Data → Option DocumentFault) → ℕ → Items → Option DocumentFault
first_item fault_of index no_items = None
first_item fault_of index (item d ds) = or_else (option_map (at index) (fault_of d)) (first_item fault_of (index + 1) ds)

-- with a list, or with one value in its place
abbrev pub first_of_list : (Data → Option DocumentFault) → Data → Option DocumentFault
first_of_list fault_of null = fault_of null
first_of_list fault_of (boolean b) = fault_of (boolean b)
first_of_list fault_of (number n) = fault_of (number n)
first_of_list fault_of (string s) = fault_of (string s)
first_of_list fault_of (array ds) = first_item fault_of 0 ds
first_of_list fault_of (object ms) = fault_of (object ms)

-- what is wrong with the value of a field, if it is there
abbrev pub field_fault : (Data → Option DocumentFault) → List ℕ → Data → Option DocumentFault
field_fault fault_of name d = at_field name (option_and_then fault_of (get name d))
