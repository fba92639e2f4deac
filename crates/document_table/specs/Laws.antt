-- What holds of every document that keeps to the table, in the words of the standard (CWL v1.2, "Syntax"; Schema Salad v1.2, "Document
-- preprocessing", "Identifier maps").
use Rattle.std.specs.Prelude.{◌≡◌, ◌⊎◌, ◌||◌, ℕ, List, Bool, true, Some, None, is_some, codes}
use Rattle.serde_json.specs.Data.{Data, null, boolean, number, string, array, object, Items, no_items, item, Members, no_members, member, put}
use Rattle.serde_json.specs.Find.{get}
use Rattle.document_table.specs.Documents.{table_fault}
use Rattle.document_table.specs.Entries.{HasForm, IsOf, IsThere, class_in, kind_of}
use Rattle.document_table.specs.Layouts.{is_read_over, layout_of, subject_of}
use Rattle.document_table.specs.Packed.{graph_in, is_packed, item_at, item_named, root_of}
use Rattle.document_table.specs.Table.{form_of}
use Rattle.document_table.specs.Walk.{fault_in}
use Rattle.document_table.specs.declared.form.Form.{Form}
use Rattle.document_table.specs.declared.form.Form.TheVariants as form
use Rattle.document_table.specs.declared.form.Kind.{Kind}
use Rattle.document_table.specs.declared.form.Kind.TheVariants as kind

-- ---- versions and classes

-- a document says the version v1.2
abbrev pub DocumentsSayTheirVersion : Type 0
DocumentsSayTheirVersion = (d : Data) → table_fault d ≡ None → get (codes "cwlVersion") d ≡ Some (string (codes "v1.2"))

abbrev pub IsClass : List ℕ → Type 0
IsClass name = (name ≡ codes "CommandLineTool") ⊎ (name ≡ codes "Workflow")

-- and the class of the process that it stands for is one of two
abbrev pub DocumentsSayTheirClass : Type 0
DocumentsSayTheirClass = (d : Data) → table_fault d ≡ None → IsClass (class_in (root_of d).process)

-- ---- packed documents

-- A packed document stands for one of its items. It is the only one, or it has the id `#main`, or the id `main` where none has `#main`.
abbrev pub RootsAreItems : Type 0
RootsAreItems =
    (d : Data) → is_packed d ≡ true → table_fault d ≡ None
    → ((process : Data) × (graph_in d ≡ item process no_items) × (root_of d ≡ item_at 0 process))
    ⊎ ((item_named (codes "#main") d ≡ Some (root_of d)) ⊎ ((item_named (codes "#main") d ≡ None) × (item_named (codes "main") d ≡ Some (root_of d))))

-- ---- fields

-- the table has a field of that name, or the name is one that describes, or an extension's
abbrev pub is_known_field : Kind → List ℕ → Bool
is_known_field kind name = is_some (form_of kind name) || is_read_over name

-- an object has no field but those of the table, those that describe, and extensions
abbrev pub EachFieldIsKnown : Type 0
EachFieldIsKnown = (kind : Kind) (name : List ℕ) (d : Data) → IsOf kind d → IsThere name d → is_known_field kind name ≡ true

-- What describes an object, and what an extension says of it, decides nothing: with any value of that name the object has the same first
-- fault, or none.
abbrev pub DescriptionsDecideNothing : Type 0
DescriptionsDecideNothing =
    (form : Form) (kind : Kind) (name : List ℕ) (d : Data) (ms : Members) → is_read_over name ≡ true → kind_of (layout_of form (object ms)) ≡ Some kind
    → fault_in form (object (put name d ms)) ≡ fault_in form (object ms)

-- ---- identifier maps

-- the field that a value under a key stands for, where it is no object
abbrev pub predicate_of : Kind → List ℕ
predicate_of kind.StepInput = codes "source"
predicate_of kind.Variable = codes "envValue"
predicate_of _ = codes "type"

-- what is under a key, as an item of a list: with its key as its subject
abbrev pub item_under : Kind → List ℕ → Data → Data
item_under kind name null = object (put (subject_of kind) (string name) (member (predicate_of kind) null no_members))
item_under kind name (boolean b) = object (put (subject_of kind) (string name) (member (predicate_of kind) (boolean b) no_members))
item_under kind name (number n) = object (put (subject_of kind) (string name) (member (predicate_of kind) (number n) no_members))
item_under kind name (string s) = object (put (subject_of kind) (string name) (member (predicate_of kind) (string s) no_members))
item_under kind name (array ds) = object (put (subject_of kind) (string name) (member (predicate_of kind) (array ds) no_members))
item_under kind name (object ms) = object (put (subject_of kind) (string name) ms)

-- the list that a map stands for
abbrev pub items_under : Kind → Members → Items
items_under kind no_members = no_items
items_under kind (member name d ms) = item (item_under kind name d) (items_under kind ms)

-- A map of objects that is taken stands for a list that is taken.
abbrev pub MapsStandForLists : Type 0
MapsStandForLists =
    (kind : Kind) (ms : Members) → is_some (form_of kind (subject_of kind)) ≡ true → HasForm (form.Objects kind) (object ms)
    → HasForm (form.Objects kind) (array (items_under kind ms))
