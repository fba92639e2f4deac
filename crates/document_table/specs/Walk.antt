-- The first fault of a document, and that there is none: each value beside the form that the table asks of it.
use Rattle.std.specs.Prelude.{ℕ, ◌+◌, List, Option, Some, None, Result, Ok, Err, option_map, if◌then◌else◌}
use Rattle.serde_json.specs.Data.{Data, null, boolean, number, string, array, object, Items, no_items, item, Members, no_members, member}
use Rattle.document_table.specs.Faults.{here, under, at}
use Rattle.document_table.specs.Layouts.{layout_of, member_form, missing_field}
use Rattle.document_table.specs.Leaves.{item_form, short_form, takes_leaf, wrong, wrong_leaf}
use Rattle.document_table.specs.Repeats.{repeated_key, repeated_name}
use Rattle.document_table.specs.declared.fault.Cause.{Cause}
use Rattle.document_table.specs.declared.fault.Cause.TheVariants as cause
use Rattle.document_table.specs.declared.fault.DocumentFault.{DocumentFault}
use Rattle.document_table.specs.declared.form.Form.{Form}
use Rattle.document_table.specs.declared.layout.Layout.{Layout}
use Rattle.document_table.specs.declared.layout.Layout.TheVariants as layout

-- the one that comes first
abbrev pub or_else : Option DocumentFault → Option DocumentFault → Option DocumentFault
or_else None later = later
or_else (Some fault) later = Some fault

abbrev pub leaf_fault : Form → Data → Option DocumentFault
leaf_fault form d = if takes_leaf form d then None else Some (here (wrong_leaf form d))

-- an object that is refused itself, or that lacks a field
abbrev pub own_fault : Layout → Data → Option DocumentFault
own_fault (layout.Refused cause) d = Some (here cause)
own_fault layout d = option_map (λ name. under name (here cause.MissingField)) (missing_field layout d)

-- a value under a name: its form, or why there may be none, and what of it the form breaks
abbrev pub judged : List ℕ → Result Form Cause → (Form → Option DocumentFault) → Option DocumentFault
judged name (Ok form) fault_of = option_map (under name) (fault_of form)
judged name (Err cause) fault_of = Some (under name (here cause))

-- a list where its items have that form
abbrev pub listed : Form → Option Form → (Form → Option DocumentFault) → Option DocumentFault
listed form (Some each) fault_of = fault_of each
listed form None fault_of = Some (here (wrong form))

-- a list in which two items have one name
abbrev pub repeat_fault : Form → Items → Option DocumentFault
repeat_fault form ds = option_map (λ name. under name (here cause.RepeatedId)) (repeated_name form ds)

-- a map in which two keys stand for one name
abbrev pub key_fault : Layout → Members → Option DocumentFault
key_fault layout ms = option_map (λ name. under name (here cause.RepeatedId)) (repeated_key layout ms)

abbrev mutual
  pub fault_in : Form → Data → Option DocumentFault
  fault_in form null = leaf_fault (short_form form) null
  fault_in form (boolean b) = leaf_fault (short_form form) (boolean b)
  fault_in form (number n) = leaf_fault (short_form form) (number n)
  fault_in form (string s) = leaf_fault (short_form form) (string s)
  fault_in form (array ds) = listed form (item_form (short_form form)) (λ each. or_else (fault_in_items each 0 ds) (repeat_fault (short_form form) ds))
  fault_in form (object ms) =
      or_else (fault_in_members (layout_of form (object ms)) ms)
      (or_else (own_fault (layout_of form (object ms)) (object ms)) (key_fault (layout_of form (object ms)) ms))

  -- the items from that index on
  pub fault_in_items : Form → ℕ → Items → Option DocumentFault
  fault_in_items form index no_items = None
  fault_in_items form index (item d ds) = or_else (option_map (at index) (fault_in form d)) (fault_in_items form (index + 1) ds)

  pub fault_in_members : Layout → Members → Option DocumentFault
  fault_in_members layout no_members = None
  fault_in_members layout (member name d ms) = or_else (judged name (member_form layout name) (λ form. fault_in form d)) (fault_in_members layout ms)
