-- What a document that keeps to the table is made of: values at fields, and objects in lists and maps (Schema Salad v1.2,
-- "Identifier maps").
use Rattle.std.specs.Prelude.{◌≡◌, ℕ, List, [], ◌∷◌, true, Option, Some, None, ⊤, is_some, unwrap_or, option_and_then, if◌then◌else◌, codes}
use Rattle.std.specs.Borrow.{Bor}
use Rattle.std.specs.Option.{option_map_or}
use Rattle.std.specs.Str.{bytes_eq}
use Rattle.serde_json.specs.Data.{Data, null, boolean, number, string, array, object, Items, no_items, item, Members, no_members, member}
use Rattle.serde_json.specs.Find.{as_str, get}
use Rattle.serde_json.specs.View.{view}
use Rattle.serde_json.specs.declared.value.Value.{Value}
use Rattle.document_table.specs.Layouts.{layout_of}
use Rattle.document_table.specs.Repeats.{name_in, subject_name}
use Rattle.document_table.specs.Walk.{fault_in}
use Rattle.document_table.specs.declared.form.Form.{Form}
use Rattle.document_table.specs.declared.form.Kind.{Kind}
use Rattle.document_table.specs.declared.form.Kind.TheVariants as kind
use Rattle.document_table.specs.declared.layout.Layout.{Layout}
use Rattle.document_table.specs.declared.layout.Layout.TheVariants as layout

-- the value and everything in it keep to the form
abbrev pub HasForm : Form → Data → Type 0
HasForm form d = fault_in form d ≡ None

-- the same, where there is a value
abbrev pub MayHaveForm : Form → Option Data → Type 0
MayHaveForm form None = ⊤
MayHaveForm form (Some d) = HasForm form d

-- ---- objects

abbrev pub kind_of : Layout → Option Kind
kind_of (layout.Fields kind) = Some kind
kind_of (layout.KeyedFields kind) = Some kind
kind_of _ = None

-- an object of that kind, or what may stand for one, by the form that is asked of it
abbrev pub IsOf : Kind → Data → Type 0
IsOf kind d = (form : Form) × HasForm form d × (kind_of (layout_of form d) ≡ Some kind)

-- the value of the one field that may stand for its object: that of the object, or the value in its place
abbrev pub main_field : List ℕ → Data → Option Data
main_field name null = Some null
main_field name (boolean b) = Some (boolean b)
main_field name (number n) = Some (number n)
main_field name (string s) = Some (string s)
main_field name (array ds) = Some (array ds)
main_field name (object ms) = get name (object ms)

-- the value of a field is there
abbrev pub IsThere : List ℕ → Data → Type 0
IsThere name d = is_some (get name d) ≡ true

-- ---- processes

abbrev pub class_in : Data → List ℕ
class_in d = unwrap_or (option_and_then as_str (get (codes "class") d)) []

-- A process is a tool or a workflow, as its class says.
abbrev pub kind_in : Data → Kind
kind_in d = if bytes_eq (class_in d) (codes "Workflow") then kind.Workflow else kind.Tool

abbrev pub IsProcess : Data → Type 0
IsProcess d = IsOf (kind_in d) d

-- ---- lists and maps of objects

-- the items that have a name, each beside it
abbrev pub listed_entries : Kind → Items → List (List ℕ × Data)
listed_entries kind no_items = []
listed_entries kind (item d ds) = option_map_or (λ name. (name, d) ∷ listed_entries kind ds) (name_in kind d) (listed_entries kind ds)

-- each value under what its key stands for
abbrev pub mapped_entries : Kind → Members → List (List ℕ × Data)
mapped_entries kind no_members = []
mapped_entries kind (member key d ms) = (subject_name kind key, d) ∷ mapped_entries kind ms

-- what is in a list or a map of objects, each beside its subject
abbrev pub entries : Kind → Data → List (List ℕ × Data)
entries kind null = []
entries kind (boolean b) = []
entries kind (number n) = []
entries kind (string s) = []
entries kind (array ds) = listed_entries kind ds
entries kind (object ms) = mapped_entries kind ms

-- an entry that the code has
abbrev pub entry_seen : Bor (List ℕ) × Bor Value → List ℕ × Data
entry_seen e = (e.0.now, view e.1.now)
