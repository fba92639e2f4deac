-- A field that is left out is read as its default.
use Rattle.std.proofs.Common.{◌≡◌, ℕ, List, [], map, Bool, true, false, None, refl, sym, ap, ◌∙◌, bytes_eq, codes}
use Rattle.std.specs.Prelude.{pos, ◌||◌, ◌&&◌, not, nat_eq, option_map, option_and_then, unwrap_or}
use Rattle.std.specs.List.{ends_with}
use Rattle.std.specs.Option.{option_map_or}
use Rattle.std.specs.Cmp.Lexicographic.{bytes_decides}
use Rattle.std.proofs.lemmas.Bool.{true≢false}
use Rattle.serde_json.specs.Data.{Data, unsigned, boolean, number, Members, put}
use Rattle.serde_json.specs.Find.{as_bool, as_str, get_member}
use Rattle.serde_json.proofs.Views.{get_member-put, get_member-put_other}
use Rattle.cwl_value.specs.Reading.{reading}
use Rattle.cwl_process.specs.Bindings.{binding_in, secondary_in}
use Rattle.cwl_process.specs.Laws.{IsDefault}
use Rattle.cwl_process.specs.Parameters.{if_read, input_type_in, output_binding_in, tool_input_in}
use Rattle.cwl_process.specs.Simple.{flag_at, int_in, one_or_more, text_in}
use Rattle.cwl_process.specs.Templates.{template_in, template_of}
use Rattle.cwl_process.specs.declared.tool.InputType.TheVariants as input

other : (field name : List ℕ) (d : Data) (ms : Members) → bytes_eq field name ≡ false → get_member field (put name d ms) ≡ get_member field ms
other field name d ms apart = get_member-put_other field name d ms (λ (same : field ≡ name). true≢false (sym ((bytes_decides field name).1 same) ∙ apart))

-- a boolean that is written out, and left out
flag : (name : List ℕ) (b : Bool) (ms : Members) → get_member name ms ≡ None
    → unwrap_or (option_and_then as_bool (get_member name (put name (boolean b) ms))) b ≡ unwrap_or (option_and_then as_bool (get_member name ms)) b
flag name b ms absent =
    ap (λ o. unwrap_or (option_and_then as_bool o) b) (get_member-put name (boolean b) ms) ∙ sym (ap (λ o. unwrap_or (option_and_then as_bool o) b) absent)

pub separate : IsDefault binding_in (codes "separate") (boolean true)
separate ms absent =
    let at = λ (field : List ℕ) (apart : bytes_eq field (codes "separate") ≡ false). other field (codes "separate") (boolean true) ms apart in
    let position = at (codes "position") refl in
    let prefix = at (codes "prefix") refl in
    let own = flag (codes "separate") true ms absent in
    let separator = at (codes "itemSeparator") refl in
    let value = at (codes "valueFrom") refl in
    λ i. record {
      position = option_map_or int_in (position i) (pos 0);
      prefix = option_and_then as_str (prefix i);
      separate = own i;
      item_separator = option_and_then as_str (separator i);
      value_from = option_map template_of (option_and_then as_str (value i));
    }

pub position : IsDefault binding_in (codes "position") (number (unsigned 0))
position ms absent =
    let at = λ (field : List ℕ) (apart : bytes_eq field (codes "position") ≡ false). other field (codes "position") (number (unsigned 0)) ms apart in
    let put_there = ap (λ o. option_map_or int_in o (pos 0)) (get_member-put (codes "position") (number (unsigned 0)) ms) in
    let own = put_there ∙ sym (ap (λ o. option_map_or int_in o (pos 0)) absent) in
    let prefix = at (codes "prefix") refl in
    let separate = at (codes "separate") refl in
    let separator = at (codes "itemSeparator") refl in
    let value = at (codes "valueFrom") refl in
    λ i. record {
      position = own i;
      prefix = option_and_then as_str (prefix i);
      separate = unwrap_or (option_and_then as_bool (separate i)) true;
      item_separator = option_and_then as_str (separator i);
      value_from = option_map template_of (option_and_then as_str (value i));
    }

pub required : (absent : Bool) → IsDefault (secondary_in absent) (codes "required") (boolean absent)
required default ms absent =
    let pattern = other (codes "pattern") (codes "required") (boolean default) ms refl in
    let own = flag (codes "required") default ms absent in
    λ i. record {
      pattern = option_map_or text_in (pattern i) (codes "");
      required = not (ends_with nat_eq (option_map_or text_in (pattern i) (codes "")) (codes "?")) && own i;
    }

pub contents_of_inputs : IsDefault tool_input_in (codes "loadContents") (boolean false)
contents_of_inputs ms absent =
    let at = λ (field : List ℕ) (apart : bytes_eq field (codes "loadContents") ≡ false). other field (codes "loadContents") (boolean false) ms apart in
    let type = at (codes "type") refl in
    let default = at (codes "default") refl in
    let binding = at (codes "inputBinding") refl in
    let own = flag (codes "loadContents") false ms absent in
    let secondary = at (codes "secondaryFiles") refl in
    λ i. record {
      kind = option_map_or input_type_in (type i) (input.Members []);
      default = option_and_then (λ v. if_read (reading v)) (default i);
      binding = option_map binding_in (binding i);
      load_contents = own i || option_map_or (flag_at (codes "loadContents") false) (binding i) false;
      secondary_files = map (secondary_in true) (option_map_or one_or_more (secondary i) []);
    }

pub contents_of_outputs : IsDefault output_binding_in (codes "loadContents") (boolean false)
contents_of_outputs ms absent =
    let at = λ (field : List ℕ) (apart : bytes_eq field (codes "loadContents") ≡ false). other field (codes "loadContents") (boolean false) ms apart in
    let glob = at (codes "glob") refl in
    let own = flag (codes "loadContents") false ms absent in
    let eval = at (codes "outputEval") refl in
    λ i. record {
      glob = option_map (λ _. map template_in (option_map_or one_or_more (glob i) [])) (glob i);
      load_contents = own i;
      output_eval = option_map template_of (option_and_then as_str (eval i));
    }
