-- Packed documents: a list of processes under `$graph`, and the one of them that the document stands for (CWL v1.2, Command Line Tool
-- Description, "Packed documents").
use Rattle.std.specs.Prelude.{ℕ, ◌+◌, List, [], ◌∷◌, Bool, false, Option, Some, None, is_some, unwrap_or, option_and_then, option_map, if◌then◌else◌, bytes_eq, codes}
use Rattle.std.specs.Option.{option_map_or}
use Rattle.serde_json.specs.Data.{Data, null, boolean, number, string, array, object, Items, no_items, item}
use Rattle.serde_json.specs.Find.{as_object, as_str, get}
use Rattle.serde_json.specs.View.{view}
use Rattle.document_table.specs.Faults.{at, here, under}
use Rattle.document_table.specs.Repeats.{repeat_after}
use Rattle.document_table.specs.Walk.{fault_in, or_else}
use Rattle.document_table.specs.declared.fault.Cause.TheVariants as cause
use Rattle.document_table.specs.declared.fault.DocumentFault.{DocumentFault}
use Rattle.document_table.specs.declared.form.Form.TheVariants as form
use Rattle.document_table.specs.declared.packed.Placed as code

abbrev pub is_packed : Data → Bool
is_packed d = is_some (get (codes "$graph") d)

abbrev pub items_of : Data → Items
items_of null = no_items
items_of (boolean b) = no_items
items_of (number n) = no_items
items_of (string s) = no_items
items_of (array ds) = ds
items_of (object ms) = no_items

-- the items of a packed document
abbrev pub graph_in : Data → Items
graph_in d = option_map_or items_of (get (codes "$graph") d) no_items

-- the id of a process, which is any text
abbrev pub id_in : Data → Option (List ℕ)
id_in d = option_and_then as_str (get (codes "id") d)

abbrev pub has_id : List ℕ → Data → Bool
has_id id d = option_map_or (bytes_eq id) (id_in d) false

-- ---- items

-- a process of a document, and the index of its item where the document is packed
pub record Placed : Type 0 where
  pub process : Data
  pub index : Option ℕ

abbrev pub item_at : ℕ → Data → Placed
item_at index d = record { process = d; index = Some index }

-- the first of that id, where they begin with that index
abbrev pub item_from : List ℕ → ℕ → Items → Option Placed
item_from id index no_items = None
item_from id index (item d ds) = if has_id id d then Some (item_at index d) else item_from id (index + 1) ds

-- the item of that id
abbrev pub item_named : List ℕ → Data → Option Placed
item_named id d = item_from id 0 (graph_in d)

-- ---- the root

abbrev pub or_placed : Option Placed → Option Placed → Option Placed
or_placed None later = later
or_placed (Some placed) later = Some placed

-- a single item
abbrev pub only_item : Items → Option Placed
only_item no_items = None
only_item (item d no_items) = Some (item_at 0 d)
only_item (item d (item e ds)) = None

-- a single item, whatever its id; else the item `#main`, and where there is none, `main`
abbrev pub root_item : Items → Option Placed
root_item ds = or_placed (only_item ds) (or_placed (item_from (codes "#main") 0 ds) (item_from (codes "main") 0 ds))

abbrev pub whole : Data → Placed
whole d = record { process = d; index = None }

-- the process that a document stands for: its root, or all of it
abbrev pub root_of : Data → Placed
root_of d = if is_packed d then unwrap_or (root_item (graph_in d)) (whole d) else whole d

-- one that the code has
abbrev pub placed_seen : code.Placed → Placed
placed_seen p = record { process = view p.process.now; index = p.index }

-- ---- what is wrong

-- the fault of an item, seen from the document
abbrev pub in_item : Option ℕ → DocumentFault → DocumentFault
in_item None fault = fault
in_item (Some index) fault = under (codes "$graph") (at index fault)

abbrev pub id_fault : Bool → Option Data → Option DocumentFault
id_fault alone None = if alone then None else Some (under (codes "id") (here cause.MissingField))
id_fault alone (Some id) = if is_some (as_str id) then None else Some (under (codes "id") (here cause.WrongForm))

-- An item is an object; it says its id, which a single one may leave out.
abbrev pub shape_fault : Bool → Data → Option DocumentFault
shape_fault alone d = if is_some (as_object d) then id_fault alone (get (codes "id") d) else Some (here cause.WrongForm)

-- the first of the items that begin with that index
abbrev pub shapes_fault : Bool → ℕ → Items → Option DocumentFault
shapes_fault alone index no_items = None
shapes_fault alone index (item d ds) = or_else (option_map (at index) (shape_fault alone d)) (shapes_fault alone (index + 1) ds)

abbrev pub ids_in : Items → List (List ℕ)
ids_in no_items = []
ids_in (item d ds) = option_map_or (λ id. id ∷ ids_in ds) (id_in d) (ids_in ds)

abbrev pub rootless : Items → Option DocumentFault
rootless ds = if is_some (root_item ds) then None else Some (under (codes "#main") (here cause.MissingField))

-- Each item has its shape; no two have one id; and one is the root.
abbrev pub items_fault : Items → Option DocumentFault
items_fault ds =
    or_else (shapes_fault (is_some (only_item ds)) 0 ds)
    (or_else (option_map (λ id. under id (here cause.RepeatedId)) (repeat_after [] (ids_in ds))) (rootless ds))

-- There is a list with an item at least, and nothing is wrong with the items.
abbrev pub graph_fault : Items → Option DocumentFault
graph_fault no_items = Some (here cause.WrongForm)
graph_fault (item d ds) = items_fault (item d ds)

-- what the table says of a process in its place
abbrev pub placed_fault : Placed → Option DocumentFault
placed_fault p = option_map (in_item p.index) (fault_in form.Process p.process)

-- Of the items that the root does not reach nothing is asked but their ids.
abbrev pub packed_fault : Data → Option DocumentFault
packed_fault d = or_else (fault_in form.Packed d) (or_else (option_map (under (codes "$graph")) (graph_fault (graph_in d))) (placed_fault (root_of d)))
