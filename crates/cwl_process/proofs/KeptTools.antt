-- A tool reads alike where only what is kept of its object is there, so what is written of it tells it from others.
use Rattle.std.proofs.Common.{◌≡◌, ℕ, List, [], ◌∷◌, map, Bool, true, false, Option, Some, None, Ok, refl, sym, ap, subst, ◌∙◌, bytes_eq, codes}
use Rattle.std.specs.Prelude.{pos, ◌||◌, ◌&&◌, not, nat_eq, option_map, option_and_then, unwrap_or, if◌then◌else◌}
use Rattle.std.specs.List.{ends_with}
use Rattle.std.specs.Option.{option_map_or}
use Rattle.serde_json.specs.Data.{Data, null, boolean, number, string, array, object, Items, no_items, item, Members}
use Rattle.serde_json.specs.Find.{as_bool, as_i64, as_str, get_member}
use Rattle.cwl_value.specs.Reading.{reading}
use Rattle.cwl_value.proofs.Texts.{texts_tell_json_apart}
use Rattle.document_table.specs.Entries.{HasForm, IsOf, MayHaveForm, entries}
use Rattle.document_table.specs.Faults.{here}
use Rattle.document_table.specs.Kept.{each_form, kept, kept_form, kept_items, kept_members}
use Rattle.document_table.specs.Layouts.{member_form}
use Rattle.document_table.specs.Leaves.{item_form, short_form, wrong}
use Rattle.document_table.specs.Table.{form_of}
use Rattle.document_table.specs.Walk.{fault_in_items, fault_in_members, listed, or_else, repeat_fault}
use Rattle.document_table.specs.declared.fault.Cause.TheVariants as cause
use Rattle.document_table.specs.declared.form.Form.{Form}
use Rattle.document_table.specs.declared.form.Form.TheVariants as form
use Rattle.document_table.specs.declared.form.Kind.{Kind}
use Rattle.document_table.specs.declared.form.Kind.TheVariants as kind
use Rattle.document_table.specs.declared.layout.Layout.{Layout}
use Rattle.document_table.specs.declared.layout.Layout.TheVariants as layout
use Rattle.document_table.proofs.Faultless.{field_has_form, first_none, later_none, member_has_form, members_none, some_is_not_none}
use Rattle.cwl_process.specs.Bindings.{binding_in, bindings_at, secondary_in}
use Rattle.cwl_process.specs.Laws.{WrittenTellsToolsApart}
use Rattle.cwl_process.specs.Parameters.{if_read, input_type_in, is_text, output_binding_in, output_type_in, tool_input_in, tool_output_in}
use Rattle.cwl_process.specs.Simple.{elements, flag_at, int_at, int_in, ints_at, list_at, narrow, one_or_more, text_at, text_in, texts_at}
use Rattle.cwl_process.specs.Templates.{template_at, template_in, template_of, templates_at}
use Rattle.cwl_process.specs.Tools.{entries_at, exit_codes_in, streams_in}
use Rattle.cwl_process.specs.declared.tool.InputType.TheVariants as input
use Rattle.cwl_process.specs.declared.tool.OutputType.TheVariants as output
use Rattle.cwl_process.proofs.KeptFields.{IsKeptAs, bool_kept, entries_kept, map_kept, member_kept, number_kept, or_kept, read_each, str_kept, then_kept, value_kept}
use Rattle.cwl_process.proofs.KeptTypes.{input_type_kept, output_type_kept, types_kept}

-- ---- one value

text_in_kept : (f : Form) (d : Data) → text_in (kept f d) ≡ text_in d
text_in_kept f d = ap (λ o. unwrap_or o []) (str_kept f d)

int_in_kept : (f : Form) (d : Data) → int_in (kept f d) ≡ int_in d
int_in_kept f d = ap (λ o. unwrap_or (option_and_then narrow (option_and_then as_i64 o)) (pos 0)) (number_kept f d)

template_in_kept : (f : Form) (d : Data) → template_in (kept f d) ≡ template_in d
template_in_kept f d = ap template_of (text_in_kept f d)

-- ---- fields of an object of which these members are kept

module _ (l : Layout) (ms : Members) where
  abbrev after : Data
  after = object (kept_members l ms)

  text_field : (name : List ℕ) (f : Form) → IsKeptAs l name f → text_at name after ≡ text_at name (object ms)
  text_field name f is = ap (option_and_then as_str) (member_kept l name f ms is) ∙ then_kept as_str str_kept f (get_member name ms)

  template_field : (name : List ℕ) (f : Form) → IsKeptAs l name f → template_at name after ≡ template_at name (object ms)
  template_field name f is = ap (option_map template_of) (text_field name f is)

  flag_field : (name : List ℕ) (absent : Bool) (f : Form) → IsKeptAs l name f → flag_at name absent after ≡ flag_at name absent (object ms)
  flag_field name absent f is =
      ap (λ o. unwrap_or o absent) (ap (option_and_then as_bool) (member_kept l name f ms is) ∙ then_kept as_bool bool_kept f (get_member name ms))

  int_field : (name : List ℕ) (f : Form) → IsKeptAs l name f → int_at name after ≡ int_at name (object ms)
  int_field name f is =
      ap (λ o. option_map_or int_in o (pos 0)) (member_kept l name f ms is) ∙ or_kept int_in (pos 0) f (get_member name ms) (λ d there. int_in_kept f d)

  -- a list, where each is read alike
  list_field : {T : Type 0} (read : Data → T) (name : List ℕ) (f : Form) → IsKeptAs l name f
      → ((d : Data) → get_member name ms ≡ Some d → map read (one_or_more (kept f d)) ≡ map read (one_or_more d))
      → map read (list_at name after) ≡ map read (list_at name (object ms))
  list_field read name f is own =
      ap (λ o. map read (option_map_or one_or_more o [])) (member_kept l name f ms is)
      ∙ elim (get_member name ms) as (λ o. ((d : Data) → o ≡ Some d → map read (one_or_more (kept f d)) ≡ map read (one_or_more d))
      → map read (option_map_or one_or_more (option_map (kept f) o) []) ≡ map read (option_map_or one_or_more o []))
      [ None ↦ (λ own. refl) | Some d ↦ (λ own. own d refl) ] own

-- the items of a list, where each is read alike
elements_kept : {T : Type 0} (read : Data → T) (f : Form) (ds : Items) → ((d : Data) → read (kept f d) ≡ read d) → map read (elements (kept_items f ds)) ≡ map read (elements ds)
elements_kept read f no_items own = refl
elements_kept read f (item d ds) own =
    let first = own d in
    let later = elements_kept read f ds own in
    (λ i. first i ∷ later i)

some_kept : {T : Type 0} (read : Data → T) → ((f : Form) (d : Data) → read (kept f d) ≡ read d) → (f : Form) (d : Data) → map read (one_or_more (kept f d)) ≡ map read (one_or_more d)
some_kept read own f null = refl
some_kept read own f (boolean b) = refl
some_kept read own f (number n) = refl
some_kept read own f (string s) = refl
some_kept read own f (array ds) = elements_kept read (each_form f) ds (own (each_form f))
some_kept read own f (object ms) = ap (λ x. x ∷ []) (own f (object ms))

-- ---- bindings and secondary files

module _ (k : Kind) (ms : Members)
    (position : IsKeptAs (layout.Fields k) (codes "position") form.Int) (prefix : IsKeptAs (layout.Fields k) (codes "prefix") form.Text)
    (separate : IsKeptAs (layout.Fields k) (codes "separate") form.Bool) (separator : IsKeptAs (layout.Fields k) (codes "itemSeparator") form.Text)
    (value : IsKeptAs (layout.Fields k) (codes "valueFrom") form.Text) where
  binding_object : binding_in (object (kept_members (layout.Fields k) ms)) ≡ binding_in (object ms)
  binding_object =
      let l = layout.Fields k in
      let at = int_field l ms (codes "position") form.Int position in
      let before = text_field l ms (codes "prefix") form.Text prefix in
      let apart = flag_field l ms (codes "separate") true form.Bool separate in
      let between = text_field l ms (codes "itemSeparator") form.Text separator in
      let from = template_field l ms (codes "valueFrom") form.Text value in
      (λ i. record { position = at i; prefix = before i; separate = apart i; item_separator = between i; value_from = from i })

binding_kept : (d : Data) → binding_in (kept (form.Object kind.InputBinding) d) ≡ binding_in d
binding_kept null = refl
binding_kept (boolean b) = refl
binding_kept (number n) = refl
binding_kept (string s) = refl
binding_kept (array ds) = refl
binding_kept (object ms) = binding_object kind.InputBinding ms refl refl refl refl refl

argument_kept : (d : Data) → binding_in (kept form.Argument d) ≡ binding_in d
argument_kept null = refl
argument_kept (boolean b) = refl
argument_kept (number n) = refl
argument_kept (string s) = refl
argument_kept (array ds) = refl
argument_kept (object ms) = binding_object kind.Argument ms refl refl refl refl refl

arguments_kept : (d : Data) → HasForm form.Arguments d → map binding_in (one_or_more (kept form.Arguments d)) ≡ map binding_in (one_or_more d)
arguments_kept null has = refl
arguments_kept (boolean b) has = refl
arguments_kept (number n) has = refl
arguments_kept (string s) has = refl
arguments_kept (array ds) has = elements_kept binding_in form.Argument ds argument_kept
arguments_kept (object ms) has = absurd (some_is_not_none (here cause.WrongForm) (later_none _ _ has))

secondary_object : (absent : Bool) (ms : Members) → secondary_in absent (object (kept_members (layout.Fields kind.SecondaryFile) ms)) ≡ secondary_in absent (object ms)
secondary_object absent ms =
    let l = layout.Fields kind.SecondaryFile in
    let pattern = ap (λ o. option_map_or text_in o []) (member_kept l (codes "pattern") form.Pattern ms refl)
    ∙ or_kept text_in [] form.Pattern (get_member (codes "pattern") ms) (λ d there. text_in_kept form.Pattern d) in
    let required = flag_field l ms (codes "required") absent form.MaybeBool refl in
    (λ i. record { pattern = pattern i; required = not (ends_with nat_eq (pattern i) (codes "?")) && required i })

secondary_kept : (absent : Bool) (d : Data) → secondary_in absent (kept form.SecondaryFile d) ≡ secondary_in absent d
secondary_kept absent null = refl
secondary_kept absent (boolean b) = refl
secondary_kept absent (number n) = refl
secondary_kept absent (string s) = refl
secondary_kept absent (array ds) = refl
secondary_kept absent (object ms) = secondary_object absent ms

secondaries_kept : (absent : Bool) (d : Data) → map (secondary_in absent) (one_or_more (kept form.SecondaryFiles d)) ≡ map (secondary_in absent) (one_or_more d)
secondaries_kept absent null = refl
secondaries_kept absent (boolean b) = refl
secondaries_kept absent (number n) = refl
secondaries_kept absent (string s) = refl
secondaries_kept absent (array ds) = elements_kept (secondary_in absent) form.SecondaryFile ds (secondary_kept absent)
secondaries_kept absent (object ms) = ap (λ x. x ∷ []) (secondary_object absent ms)

-- ---- types of parameters

text_is_kept : (text : List ℕ) (f : Form) (d : Data) → is_text text (kept f d) ≡ is_text text d
text_is_kept text f d = ap (λ o. option_map_or (λ s. bytes_eq s text) o false) (str_kept f d)

input_kept : (d : Data) → HasForm form.InputType d → input_type_in (kept form.InputType d) ≡ input_type_in d
input_kept d has =
    let test = text_is_kept (codes "stdin") form.InputType d in
    let members = input_type_kept d has in
    (λ i. if test i then input.Stdin else input.Members (members i))

output_kept : (d : Data) → HasForm form.OutputType d → output_type_in (kept form.OutputType d) ≡ output_type_in d
output_kept d has =
    let out = text_is_kept (codes "stdout") form.OutputType d in
    let err = text_is_kept (codes "stderr") form.OutputType d in
    let members = output_type_kept d has in
    (λ i. if out i then output.Stdout else (if err i then output.Stderr else output.Members (members i)))

-- ---- parameters

-- what an object of that kind has at a field has the field's form
there_has_form : (l : Layout) (name : List ℕ) (f : Form) (ms : Members) (d : Data) → member_form l name ≡ Ok f → fault_in_members l ms ≡ None → get_member name ms ≡ Some d → HasForm f d
there_has_form l name f ms d formed none there =
    subst (λ o. MayHaveForm f o) there (member_has_form l name f ms formed none)

value_there : (o : Option Data) → option_and_then (λ v. if_read (reading v)) (option_map (kept form.Value) o) ≡ option_and_then (λ v. if_read (reading v)) o
value_there None = refl
value_there (Some d) = ap (λ v. if_read (reading v)) (value_kept d)

-- whether a binding asks for the contents
loads_kept : (d : Data) → flag_at (codes "loadContents") false (kept (form.Object kind.InputBinding) d) ≡ flag_at (codes "loadContents") false d
loads_kept null = refl
loads_kept (boolean b) = refl
loads_kept (number n) = refl
loads_kept (string s) = refl
loads_kept (array ds) = refl
loads_kept (object ms) = flag_field (layout.Fields kind.InputBinding) ms (codes "loadContents") false form.Bool refl

module _ (l : Layout) (ms : Members) (none : fault_in_members l ms ≡ None)
    (type_is : member_form l (codes "type") ≡ Ok form.InputType) (default_is : member_form l (codes "default") ≡ Ok form.Value)
    (binding_is : member_form l (codes "inputBinding") ≡ Ok (form.Object kind.InputBinding)) (loads_is : member_form l (codes "loadContents") ≡ Ok form.Bool)
    (files_is : member_form l (codes "secondaryFiles") ≡ Ok form.SecondaryFiles) where
  input_object : tool_input_in (object (kept_members l ms)) ≡ tool_input_in (object ms)
  input_object =
      let b : Form = form.Object kind.InputBinding in
      let bound = member_kept l (codes "inputBinding") b ms (ap kept_form binding_is) in
      let kind_same = ap (λ o. option_map_or input_type_in o (input.Members [])) (member_kept l (codes "type") form.InputType ms (ap kept_form type_is))
      ∙ or_kept input_type_in (input.Members []) form.InputType (get_member (codes "type") ms) (λ d there. input_kept d (there_has_form l (codes "type") form.InputType ms d type_is none there)) in
      let default_same = ap (option_and_then (λ v. if_read (reading v))) (member_kept l (codes "default") form.Value ms (ap kept_form default_is)) ∙ value_there (get_member (codes "default") ms) in
      let binding_same = ap (option_map binding_in) bound ∙ map_kept binding_in b (get_member (codes "inputBinding") ms) (λ d there. binding_kept d) in
      let own_loads = flag_field l ms (codes "loadContents") false form.Bool (ap kept_form loads_is) in
      let binding_loads = ap (λ o. option_map_or (flag_at (codes "loadContents") false) o false) bound
      ∙ or_kept (flag_at (codes "loadContents") false) false b (get_member (codes "inputBinding") ms) (λ d there. loads_kept d) in
      let files = list_field l ms (secondary_in true) (codes "secondaryFiles") form.SecondaryFiles (ap kept_form files_is) (λ d there. secondaries_kept true d) in
      (λ i. record { kind = kind_same i; default = default_same i; binding = binding_same i; load_contents = own_loads i || binding_loads i; secondary_files = files i })

no_item_form : (f : Form) (ds : Items) → HasForm f (array ds) → item_form (short_form f) ≡ None → ⊥
no_item_form f ds has is = some_is_not_none (here (wrong f)) (sym (ap (λ o. listed f o (λ each. or_else (fault_in_items each 0 ds) (repeat_fault (short_form f) ds))) is) ∙ has)

whole_input : (d : Data) → HasForm (form.Object kind.ToolInput) d → tool_input_in (kept (form.Object kind.ToolInput) d) ≡ tool_input_in d
whole_input null has = refl
whole_input (boolean b) has = refl
whole_input (number n) has = refl
whole_input (string s) has = refl
whole_input (array ds) has = absurd (no_item_form (form.Object kind.ToolInput) ds has refl)
whole_input (object ms) has = input_object (layout.Fields kind.ToolInput) ms (members_none (form.Object kind.ToolInput) ms has) refl refl refl refl refl

keyed_input : (d : Data) → HasForm (form.Keyed kind.ToolInput) d → tool_input_in (kept (form.Keyed kind.ToolInput) d) ≡ tool_input_in d
keyed_input null has = refl
keyed_input (boolean b) has = refl
keyed_input (number n) has = refl
keyed_input (string s) has = refl
keyed_input (array ds) has =
    ap (λ members. record { kind = input.Members members; default = None; binding = None; load_contents = false; secondary_files = [] }) (types_kept 0 ds (first_none _ _ has))
keyed_input (object ms) has = input_object (layout.KeyedFields kind.ToolInput) ms (members_none (form.Keyed kind.ToolInput) ms has) refl refl refl refl refl

-- ---- outputs

output_binding_kept : (d : Data) → output_binding_in (kept (form.Object kind.OutputBinding) d) ≡ output_binding_in d
output_binding_kept null = refl
output_binding_kept (boolean b) = refl
output_binding_kept (number n) = refl
output_binding_kept (string s) = refl
output_binding_kept (array ds) = refl
output_binding_kept (object ms) =
    let l = layout.Fields kind.OutputBinding in
    let patterns = list_field l ms template_in (codes "glob") form.Words refl (λ d there. some_kept template_in template_in_kept form.Words d) in
    let globs = ap (option_map (λ _. templates_at (codes "glob") (object (kept_members l ms)))) (member_kept l (codes "glob") form.Words ms refl)
    ∙ map_kept (λ _. templates_at (codes "glob") (object (kept_members l ms))) form.Words (get_member (codes "glob") ms) (λ d there. refl)
    ∙ ap (λ ts. option_map (λ _. ts) (get_member (codes "glob") ms)) patterns in
    let loaded = flag_field l ms (codes "loadContents") false form.Bool refl in
    let evaluated = template_field l ms (codes "outputEval") form.Text refl in
    (λ i. record { glob = globs i; load_contents = loaded i; output_eval = evaluated i })

module _ (l : Layout) (ms : Members) (none : fault_in_members l ms ≡ None)
    (type_is : member_form l (codes "type") ≡ Ok form.OutputType) (binding_is : member_form l (codes "outputBinding") ≡ Ok (form.Object kind.OutputBinding))
    (files_is : member_form l (codes "secondaryFiles") ≡ Ok form.SecondaryFiles) where
  output_object : tool_output_in (object (kept_members l ms)) ≡ tool_output_in (object ms)
  output_object =
      let b : Form = form.Object kind.OutputBinding in
      let kind_same = ap (λ o. option_map_or output_type_in o (output.Members [])) (member_kept l (codes "type") form.OutputType ms (ap kept_form type_is))
      ∙ or_kept output_type_in (output.Members []) form.OutputType (get_member (codes "type") ms) (λ d there. output_kept d (there_has_form l (codes "type") form.OutputType ms d type_is none there)) in
      let binding_same = ap (option_map output_binding_in) (member_kept l (codes "outputBinding") b ms (ap kept_form binding_is))
      ∙ map_kept output_binding_in b (get_member (codes "outputBinding") ms) (λ d there. output_binding_kept d) in
      let files = list_field l ms (secondary_in false) (codes "secondaryFiles") form.SecondaryFiles (ap kept_form files_is) (λ d there. secondaries_kept false d) in
      (λ i. record { kind = kind_same i; binding = binding_same i; secondary_files = files i })

whole_output : (d : Data) → HasForm (form.Object kind.ToolOutput) d → tool_output_in (kept (form.Object kind.ToolOutput) d) ≡ tool_output_in d
whole_output null has = refl
whole_output (boolean b) has = refl
whole_output (number n) has = refl
whole_output (string s) has = refl
whole_output (array ds) has = absurd (no_item_form (form.Object kind.ToolOutput) ds has refl)
whole_output (object ms) has = output_object (layout.Fields kind.ToolOutput) ms (members_none (form.Object kind.ToolOutput) ms has) refl refl refl

keyed_output : (d : Data) → HasForm (form.Keyed kind.ToolOutput) d → tool_output_in (kept (form.Keyed kind.ToolOutput) d) ≡ tool_output_in d
keyed_output null has = refl
keyed_output (boolean b) has = refl
keyed_output (number n) has = refl
keyed_output (string s) has = refl
keyed_output (array ds) has = ap (λ members. record { kind = output.Members members; binding = None; secondary_files = [] }) (types_kept 0 ds (first_none _ _ has))
keyed_output (object ms) has = output_object (layout.KeyedFields kind.ToolOutput) ms (members_none (form.Keyed kind.ToolOutput) ms has) refl refl refl

-- ---- tools

entries_field : {T : Type 0} (read : Data → T) (k : Kind) (o : Option Data) → ((d : Data) → o ≡ Some d → read_each read (entries k (kept (form.Objects k) d)) ≡ read_each read (entries k d))
    → option_map_or (λ v. read_each read (entries k v)) (option_map (kept (form.Objects k)) o) [] ≡ option_map_or (λ v. read_each read (entries k v)) o []
entries_field read k None own = refl
entries_field read k (Some d) own = own d refl

module _ (ms : Members) (is : IsOf kind.Tool (object ms)) where
  abbrev l : Layout
  l = layout.Fields kind.Tool

  abbrev said : Data
  said = object (kept_members l ms)

  field_formed : (name : List ℕ) (f : Form) (d : Data) → form_of kind.Tool name ≡ Some f → get_member name ms ≡ Some d → HasForm f d
  field_formed name f d row there = subst (λ o. MayHaveForm f o) there (field_has_form kind.Tool name f (object ms) is row)

  same_command : texts_at (codes "baseCommand") said ≡ texts_at (codes "baseCommand") (object ms)
  same_command = list_field l ms text_in (codes "baseCommand") form.Words refl (λ d there. some_kept text_in text_in_kept form.Words d)

  same_arguments : bindings_at (codes "arguments") said ≡ bindings_at (codes "arguments") (object ms)
  same_arguments =
      list_field l ms binding_in (codes "arguments") form.Arguments refl (λ d there. arguments_kept d (field_formed (codes "arguments") form.Arguments d refl there))

  same_inputs : entries_at kind.ToolInput tool_input_in (codes "inputs") said ≡ entries_at kind.ToolInput tool_input_in (codes "inputs") (object ms)
  same_inputs =
      ap (λ o. option_map_or (λ v. read_each tool_input_in (entries kind.ToolInput v)) o []) (member_kept l (codes "inputs") (form.Objects kind.ToolInput) ms refl)
      ∙ entries_field tool_input_in kind.ToolInput (get_member (codes "inputs") ms)
      (λ d there. entries_kept tool_input_in kind.ToolInput form.Id refl d whole_input keyed_input (field_formed (codes "inputs") (form.Objects kind.ToolInput) d refl there))

  same_outputs : entries_at kind.ToolOutput tool_output_in (codes "outputs") said ≡ entries_at kind.ToolOutput tool_output_in (codes "outputs") (object ms)
  same_outputs =
      ap (λ o. option_map_or (λ v. read_each tool_output_in (entries kind.ToolOutput v)) o []) (member_kept l (codes "outputs") (form.Objects kind.ToolOutput) ms refl)
      ∙ entries_field tool_output_in kind.ToolOutput (get_member (codes "outputs") ms)
      (λ d there. entries_kept tool_output_in kind.ToolOutput form.Id refl d whole_output keyed_output (field_formed (codes "outputs") (form.Objects kind.ToolOutput) d refl there))

  same_streams : streams_in said ≡ streams_in (object ms)
  same_streams =
      let in_same = template_field l ms (codes "stdin") form.Text refl in
      let out_same = template_field l ms (codes "stdout") form.Text refl in
      let err_same = template_field l ms (codes "stderr") form.Text refl in
      (λ i. record { stdin = in_same i; stdout = out_same i; stderr = err_same i })

  same_ints : (name : List ℕ) → IsKeptAs l name form.Ints → ints_at name said ≡ ints_at name (object ms)
  same_ints name kept_as = list_field l ms int_in name form.Ints kept_as (λ d there. some_kept int_in int_in_kept form.Ints d)

  same_codes : exit_codes_in said ≡ exit_codes_in (object ms)
  same_codes =
      let success = same_ints (codes "successCodes") refl in
      let temporary = same_ints (codes "temporaryFailCodes") refl in
      let permanent = same_ints (codes "permanentFailCodes") refl in
      (λ i. record { success = success i; temporary = temporary i; permanent = permanent i })

-- both read as what is kept of them does
both : {T : Type 0} (read : Data → T) (ms ns : Members) (d e : Data) → read d ≡ read (object ms) → read e ≡ read (object ns) → d ≡ e → read (object ms) ≡ read (object ns)
both read ms ns d e one other same = sym one ∙ ap read same ∙ other

pub written_tells_tools_apart : WrittenTellsToolsApart
written_tells_tools_apart ms ns around other p q same =
    let d = kept (form.Object kind.Tool) (object ms) in
    let e = kept (form.Object kind.Tool) (object ns) in
    let one : d ≡ e = texts_tell_json_apart d e p.whole q.whole same in
    record {
      base_command = both (texts_at (codes "baseCommand")) ms ns d e (same_command ms p.formed) (same_command ns q.formed) one;
      arguments = both (bindings_at (codes "arguments")) ms ns d e (same_arguments ms p.formed) (same_arguments ns q.formed) one;
      inputs = both (entries_at kind.ToolInput tool_input_in (codes "inputs")) ms ns d e (same_inputs ms p.formed) (same_inputs ns q.formed) one;
      outputs = both (entries_at kind.ToolOutput tool_output_in (codes "outputs")) ms ns d e (same_outputs ms p.formed) (same_outputs ns q.formed) one;
      streams = both streams_in ms ns d e (same_streams ms p.formed) (same_streams ns q.formed) one;
      exit_codes = both exit_codes_in ms ns d e (same_codes ms p.formed) (same_codes ns q.formed) one;
    }
