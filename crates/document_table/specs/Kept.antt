-- What a value of a document says: all of it, but for the members that are read over, and for hints. By the table these are the members
-- of which nothing is asked.
use Rattle.std.specs.Prelude.{ℕ, List, Bool, true, false, Option, Some, None, unwrap_or, Result, Ok, Err, if◌then◌else◌}
use Rattle.serde_json.specs.Data.{Data, null, boolean, number, string, array, object, Items, no_items, item, Members, no_members, member}
use Rattle.document_table.specs.Layouts.{layout_of, member_form}
use Rattle.document_table.specs.Leaves.{item_form, short_form}
use Rattle.document_table.specs.declared.fault.Cause.{Cause}
use Rattle.document_table.specs.declared.form.Form.{Form}
use Rattle.document_table.specs.declared.form.Form.TheVariants as form
use Rattle.document_table.specs.declared.layout.Layout.{Layout}

abbrev pub is_kept : Form → Bool
is_kept form.Anything = false
is_kept form.Hints = false
is_kept _ = true

-- the form of a member that is kept
abbrev pub kept_form : Result Form Cause → Option Form
kept_form (Ok f) = if is_kept f then Some f else None
kept_form (Err cause) = None

-- the form of the items of a list
abbrev pub each_form : Form → Form
each_form f = unwrap_or (item_form (short_form f)) form.Anything

abbrev pub put_kept : List ℕ → Option Form → (Form → Data) → Members → Members
put_kept name None kept_as rest = rest
put_kept name (Some f) kept_as rest = member name (kept_as f) rest

abbrev mutual
  pub kept : Form → Data → Data
  kept f null = null
  kept f (boolean b) = boolean b
  kept f (number n) = number n
  kept f (string s) = string s
  kept f (array ds) = array (kept_items (each_form f) ds)
  kept f (object ms) = object (kept_members (layout_of f (object ms)) ms)

  pub kept_items : Form → Items → Items
  kept_items f no_items = no_items
  kept_items f (item d ds) = item (kept f d) (kept_items f ds)

  pub kept_members : Layout → Members → Members
  kept_members layout no_members = no_members
  kept_members layout (member name d ms) = put_kept name (kept_form (member_form layout name)) (λ f. kept f d) (kept_members layout ms)
