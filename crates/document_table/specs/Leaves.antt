-- What a value that is no object has to be, by the form that is asked of it (CWL v1.2, Command Line Tool
-- Description and Workflow Description; Schema Salad v1.2, "Identifier maps").
use Rattle.std.specs.Prelude.{ℕ, ◌&&◌, ◌||◌, List, Bool, true, false, not, Option, Some, None, is_some, option_and_then, codes, pos, negsuc, int_le}
use Rattle.std.specs.Option.{option_map_or}
use Rattle.std.specs.Str.{bytes_eq}
use Rattle.serde_json.specs.Data.{Data, null, boolean, number, string, array, object}
use Rattle.serde_json.specs.Find.{as_i64, as_number}
use Rattle.document_table.specs.Texts.{has_byte, has_hash, is_id, is_listed, is_one_of, is_source, is_step_id, is_type_text, link_merges, pick_values, plain_id, scatter_methods}
use Rattle.document_table.specs.declared.fault.Cause.{Cause}
use Rattle.document_table.specs.declared.fault.Cause.TheVariants as cause
use Rattle.document_table.specs.declared.form.Form.{Form}
use Rattle.document_table.specs.declared.form.Form.TheVariants as form
use Rattle.document_table.specs.declared.form.Kind.{Kind}
use Rattle.document_table.specs.declared.form.Kind.TheVariants as kind

-- ---- what may stand under a key of a map in place of an object: one field of it

abbrev pub short_kind : Kind → Form
short_kind kind.ToolInput = form.InputType
short_kind kind.ToolOutput = form.OutputType
short_kind kind.WorkflowInput = form.Type
short_kind kind.WorkflowOutput = form.Type
short_kind kind.StepInput = form.Sources
short_kind kind.Variable = form.Text
short_kind kind = form.Object kind

abbrev pub short_form : Form → Form
short_form (form.Keyed kind) = short_kind kind
short_form form = form

-- ---- lists

-- the form of the items, where a list is taken
abbrev pub item_form : Form → Option Form
item_form form.Anything = Some form.Anything
item_form form.Value = Some form.Value
item_form form.Words = Some form.Text
item_form form.Names = Some form.Name
item_form form.Symbols = Some form.Name
item_form form.Ints = Some form.Int
item_form form.Sources = Some form.Source
item_form form.Type = Some form.Type
item_form form.InputType = Some form.Type
item_form form.OutputType = Some form.Type
item_form form.Arguments = Some form.Argument
item_form form.SecondaryFiles = Some form.SecondaryFile
item_form form.StepOutputs = Some form.StepOutput
item_form (form.Objects kind) = Some (form.Object kind)
item_form form.Requirements = Some form.Requirement
item_form form.Hints = Some form.Hint
item_form _ = None

-- ---- texts, numbers, booleans and null

abbrev pub takes_word : Form → List ℕ → Bool
takes_word form.Id text = is_id (plain_id text)
takes_word form.StepId text = is_step_id (plain_id text)
takes_word form.StepOutput text = is_id (plain_id text)
takes_word form.ScatterMethod text = is_one_of scatter_methods text
takes_word form.LinkMerge text = is_one_of link_merges text
takes_word form.PickValue text = is_one_of pick_values text
takes_word form.Source text = has_hash text || is_source text
takes_word form.Sources text = has_hash text || is_source text
takes_word form.Type text = is_type_text text
takes_word form.InputType text = is_type_text text || bytes_eq text (codes "stdin")
takes_word form.OutputType text = is_type_text text || bytes_eq text (codes "stdout") || bytes_eq text (codes "stderr")
takes_word _ text = false

abbrev pub takes_text : Form → List ℕ → Bool
takes_text form.Anything text = true
takes_text form.Value text = true
takes_text form.Text text = true
takes_text form.Words text = true
takes_text form.Name text = is_listed text
takes_text form.Names text = is_listed text
takes_text form.Argument text = true
takes_text form.Version text = bytes_eq text (codes "v1.2")
takes_text form.Run text = has_hash text || not (has_byte 35 text)
takes_text form.SecondaryFile text = not (has_byte 47 text)
takes_text form.SecondaryFiles text = not (has_byte 47 text)
takes_text form.Pattern text = not (has_byte 47 text)
takes_text form text = takes_word form text

-- whole, and of 32 bits
abbrev pub is_int : Data → Bool
is_int d = option_map_or (λ z. int_le (negsuc 2147483647) z && int_le z (pos 2147483647)) (option_and_then as_i64 (as_number d)) false

abbrev pub takes_number : Form → Data → Bool
takes_number form.Anything d = true
takes_number form.Value d = is_some (option_and_then as_i64 (as_number d))
takes_number form.Int d = is_int d
takes_number _ d = false

abbrev pub takes_bool : Form → Bool → Bool
takes_bool form.Anything truth = true
takes_bool form.Value truth = true
takes_bool form.Bool truth = true
takes_bool form.MaybeBool truth = true
takes_bool form.OnlyFalse truth = not truth
takes_bool _ truth = false

abbrev pub takes_null : Form → Bool
takes_null form.Anything = true
takes_null form.Value = true
takes_null form.MaybeBool = true
takes_null _ = false

-- Null, a boolean, a number or a text is taken; a list or an object is none of these.
abbrev pub takes_leaf : Form → Data → Bool
takes_leaf form null = takes_null form
takes_leaf form (boolean truth) = takes_bool form truth
takes_leaf form (number n) = takes_number form (number n)
takes_leaf form (string text) = takes_text form text
takes_leaf form (array ds) = false
takes_leaf form (object ms) = false

-- why a value of another form is refused
abbrev pub wrong : Form → Cause
wrong form.Version = cause.WrongVersion
wrong _ = cause.WrongForm

-- A text in the place of a process that is not taken names an item of another document.
abbrev pub wrong_leaf : Form → Data → Cause
wrong_leaf form.Run (string text) = cause.ItemElsewhere
wrong_leaf form d = wrong form
