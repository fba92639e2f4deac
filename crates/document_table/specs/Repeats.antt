-- The names of what is in a list or a map, of which no two may be the same (Schema Salad v1.2, "Identifier maps").
use Rattle.std.specs.Prelude.{ℕ, ◌++◌, List, [], ◌∷◌, Option, Some, None, option_and_then, option_map, if◌then◌else◌, bytes_eq}
use Rattle.std.specs.List.{list_any}
use Rattle.std.specs.Option.{option_map_or}
use Rattle.serde_json.specs.Data.{Data, null, boolean, number, string, array, object, Items, no_items, item, Members, no_members, member}
use Rattle.serde_json.specs.Find.{as_str, get}
use Rattle.document_table.specs.Layouts.{subject_of}
use Rattle.document_table.specs.Texts.{plain_id}
use Rattle.document_table.specs.declared.form.Form.{Form}
use Rattle.document_table.specs.declared.form.Form.TheVariants as form
use Rattle.document_table.specs.declared.form.Kind.{Kind}
use Rattle.document_table.specs.declared.form.Kind.TheVariants as kind
use Rattle.document_table.specs.declared.layout.Layout.{Layout}
use Rattle.document_table.specs.declared.layout.Layout.TheVariants as layout

-- what a subject stands for: an id may begin with `#`; a class or a variable's name is itself
abbrev pub subject_name : Kind → List ℕ → List ℕ
subject_name kind.Variable text = text
subject_name kind.PlainRequirement text = text
subject_name kind.EnvVarRequirement text = text
subject_name kind.WorkReuse text = text
subject_name _ text = plain_id text

-- a text is its own name; an object has it in its subject
abbrev pub name_in : Kind → Data → Option (List ℕ)
name_in kind null = None
name_in kind (boolean b) = None
name_in kind (number n) = None
name_in kind (string text) = Some (subject_name kind text)
name_in kind (array ds) = None
name_in kind (object ms) = option_map (subject_name kind) (option_and_then as_str (get (subject_of kind) (object ms)))

-- the items that have names, by the form of their list
abbrev pub named_kind : Form → Option Kind
named_kind (form.Objects kind) = Some kind
named_kind form.StepOutputs = Some kind.StepOutput
named_kind form.Names = Some kind.StepOutput
named_kind _ = None

abbrev pub names_in : Kind → Items → List (List ℕ)
names_in kind no_items = []
names_in kind (item d ds) = option_map_or (λ name. name ∷ names_in kind ds) (name_in kind d) (names_in kind ds)

-- the first of the names that stands before it too
abbrev pub repeat_after : List (List ℕ) → List (List ℕ) → Option (List ℕ)
repeat_after before [] = None
repeat_after before (name ∷ names) = if list_any (bytes_eq name) before then Some name else repeat_after (before ++ name ∷ []) names

abbrev pub repeated_name : Form → Items → Option (List ℕ)
repeated_name form ds = option_and_then (λ kind. repeat_after [] (names_in kind ds)) (named_kind form)

-- what the keys of a map stand for
abbrev pub key_names : Kind → Members → List (List ℕ)
key_names kind no_members = []
key_names kind (member key d ms) = subject_name kind key ∷ key_names kind ms

abbrev pub repeated_key : Layout → Members → Option (List ℕ)
repeated_key (layout.ByKey kind) ms = repeat_after [] (key_names kind ms)
repeated_key _ ms = None
