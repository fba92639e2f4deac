-- What describes an object is not read.
use Rattle.std.proofs.Common.{◌≡◌, ℕ, zero, suc, List, [], map, Ok, true, false, refl, sym, ap, ◌∙◌, bytes_eq, codes}
use Rattle.std.specs.Prelude.{option_map, option_and_then, unwrap_or, if◌then◌else◌}
use Rattle.std.specs.Option.{option_map_or}
use Rattle.std.specs.Ordering.{nat_cmp, match_ordering}
use Rattle.std.specs.declared.cmp.Ordering.{Ordering}
use Rattle.std.specs.declared.cmp.Ordering.TheVariants.{Less, Equal, Greater}
use Rattle.std.specs.Cmp.Lexicographic.{slice_cmp}
use Rattle.std.proofs.lemmas.Map.Lookups.{exact_bytes}
use Rattle.serde_json.specs.Data.{Data, Members, no_members, member, object, put}
use Rattle.serde_json.specs.Find.{as_str, get_member}
use Rattle.serde_json.specs.Written.{compact_text}
use Rattle.serde_json.proofs.Views.{get_member-put_other}
use Rattle.document_table.specs.Entries.{entries}
use Rattle.document_table.specs.Kept.{kept, kept_form, kept_members, put_kept}
use Rattle.document_table.specs.Layouts.{is_read_over, member_form}
use Rattle.document_table.specs.declared.form.Form.TheVariants as form
use Rattle.document_table.specs.declared.form.Kind.TheVariants as kind
use Rattle.document_table.specs.declared.layout.Layout.{Layout}
use Rattle.document_table.specs.declared.layout.Layout.TheVariants as layout
use Rattle.document_table.proofs.Described.{apart, read_over}
use Rattle.cwl_process.specs.Acting.{asked_in}
use Rattle.cwl_process.specs.Bindings.{binding_in}
use Rattle.cwl_process.specs.Parameters.{tool_input_in, tool_output_in, workflow_input_in, workflow_output_in}
use Rattle.cwl_process.specs.Processes.{process_in, step_in}
use Rattle.cwl_process.specs.Simple.{int_in, one_or_more, text_in}
use Rattle.cwl_process.specs.Templates.{template_of}
use Rattle.cwl_process.specs.Tools.{tool_in}
use Rattle.cwl_process.specs.Workflows.{step_input_in}
use Rattle.cwl_process.specs.declared.process.Process.{Process}
use Rattle.cwl_process.specs.declared.process.Process as process
use Rattle.cwl_process.specs.declared.tool.Asked.{Asked}
use Rattle.cwl_process.specs.declared.workflow.Workflow.{roll-Workflow}
use Rattle.cwl_process.proofs.Alike as alike

-- ---- what is kept of an object

dropped : (l : Layout) (name : List ℕ) (d : Data) (ms : Members) → member_form l name ≡ Ok form.Anything → kept_members l (member name d ms) ≡ kept_members l ms
dropped l name d ms is = ap (λ r. put_kept name (kept_form r) (λ f. kept f d) (kept_members l ms)) is

put_dropped : (l : Layout) (name other : List ℕ) (d e : Data) (ms : Members) (o : Ordering) → slice_cmp nat_cmp name other ≡ o → member_form l name ≡ Ok form.Anything
    → kept_members l (put name d ms) ≡ kept_members l ms
    → kept_members l (match_ordering o (member name d (member other e ms)) (member other d ms) (member other e (put name d ms))) ≡ kept_members l (member other e ms)
put_dropped l name other d e ms Less cmp is later = dropped l name d (member other e ms) is
put_dropped l name other d e ms Greater cmp is later = ap (put_kept other (kept_form (member_form l other)) (λ f. kept f e)) later
put_dropped l name other d e ms Equal cmp is later =
    let formed : member_form l other ≡ Ok form.Anything = ap (member_form l) (sym (exact_bytes name other cmp)) ∙ is in
    dropped l other d ms formed ∙ sym (dropped l other e ms formed)

pub put_not_kept : (l : Layout) (name : List ℕ) (d : Data) (ms : Members) → member_form l name ≡ Ok form.Anything → kept_members l (put name d ms) ≡ kept_members l ms
put_not_kept l name d no_members is = dropped l name d no_members is
put_not_kept l name d (member other e ms) is = put_dropped l name other d e ms (slice_cmp nat_cmp name other) refl is (put_not_kept l name d ms is)

-- ---- objects with one more description

module _ (name : List ℕ) (d : Data) (ms : Members) (over : is_read_over name ≡ true) where
  abbrev ns : Members
  ns = put name d ms

  same : (other : List ℕ) → is_read_over other ≡ false → get_member other ns ≡ get_member other ms
  same other unread = get_member-put_other other name d ms (apart name other over unread)

  pub bindings : binding_in (object ns) ≡ binding_in (object ms)
  bindings = alike.binding_same ms ns (same (codes "position") refl) (same (codes "prefix") refl) (same (codes "separate") refl) (same (codes "itemSeparator") refl) (same (codes "valueFrom") refl)

  pub tool_inputs : tool_input_in (object ns) ≡ tool_input_in (object ms)
  tool_inputs = alike.tool_input_same ms ns (same (codes "type") refl) (same (codes "default") refl) (same (codes "inputBinding") refl) (same (codes "loadContents") refl) (same (codes "secondaryFiles") refl)

  pub tool_outputs : tool_output_in (object ns) ≡ tool_output_in (object ms)
  tool_outputs = alike.tool_output_same ms ns (same (codes "type") refl) (same (codes "outputBinding") refl) (same (codes "secondaryFiles") refl)

  pub workflow_inputs : workflow_input_in (object ns) ≡ workflow_input_in (object ms)
  workflow_inputs = alike.workflow_input_same ms ns (same (codes "type") refl) (same (codes "default") refl) (same (codes "secondaryFiles") refl)

  pub workflow_outputs : (id : List ℕ) → workflow_output_in id (object ns) ≡ workflow_output_in id (object ms)
  workflow_outputs id = alike.workflow_output_same ms ns id (same (codes "type") refl) (same (codes "outputSource") refl) (same (codes "linkMerge") refl) (same (codes "pickValue") refl)

  pub step_inputs : (id : List ℕ) → step_input_in id (object ns) ≡ step_input_in id (object ms)
  step_inputs id = alike.step_input_same ms ns id (same (codes "source") refl) (same (codes "linkMerge") refl) (same (codes "pickValue") refl) (same (codes "default") refl) (same (codes "valueFrom") refl)

  asked : (around : Asked) → asked_in around (object ns) ≡ asked_in around (object ms)
  asked around = alike.asked_same ms ns around (same (codes "requirements") refl) (same (codes "hints") refl)

  pub tools : (around : Asked) → tool_in around (object ns) ≡ tool_in around (object ms)
  tools around =
      let command = same (codes "baseCommand") refl in
      let arguments = same (codes "arguments") refl in
      let inputs = same (codes "inputs") refl in
      let outputs = same (codes "outputs") refl in
      let stdin = same (codes "stdin") refl in
      let stdout = same (codes "stdout") refl in
      let stderr = same (codes "stderr") refl in
      let success = same (codes "successCodes") refl in
      let temporary = same (codes "temporaryFailCodes") refl in
      let permanent = same (codes "permanentFailCodes") refl in
      let asks = asked around in
      let written = put_not_kept (layout.Fields kind.Tool) name d ms (read_over kind.Tool name over) in
      λ i. record {
        base_command = map text_in (option_map_or one_or_more (command i) []);
        arguments = map binding_in (option_map_or one_or_more (arguments i) []);
        inputs = option_map_or (λ v. map (λ e. (e.0, tool_input_in e.1)) (entries kind.ToolInput v)) (inputs i) [];
        outputs = option_map_or (λ v. map (λ e. (e.0, tool_output_in e.1)) (entries kind.ToolOutput v)) (outputs i) [];
        streams = record {
          stdin = option_map template_of (option_and_then as_str (stdin i));
          stdout = option_map template_of (option_and_then as_str (stdout i));
          stderr = option_map template_of (option_and_then as_str (stderr i));
        };
        exit_codes = record {
          success = map int_in (option_map_or one_or_more (success i) []);
          temporary = map int_in (option_map_or one_or_more (temporary i) []);
          permanent = map int_in (option_map_or one_or_more (permanent i) []);
        };
        asked = asks i;
        written = compact_text (object (written i));
      }

  pub steps : (inner : Asked → Data → Process) (id : List ℕ) (around : Asked) → step_in inner id around (object ns) ≡ step_in inner id around (object ms)
  steps inner id around =
      alike.step_same ms ns inner id around (same (codes "in") refl) (same (codes "out") refl) (same (codes "run") refl) (same (codes "scatter") refl)
      (same (codes "scatterMethod") refl) (same (codes "when") refl) (same (codes "requirements") refl) (same (codes "hints") refl)

  pub processes : (levels : ℕ) (around : Asked) → process_in levels around (object ns) ≡ process_in levels around (object ms)
  unfolding process_in
  processes zero around = refl
  processes (suc levels) around =
      let class = same (codes "class") refl in
      let inputs = same (codes "inputs") refl in
      let outputs = same (codes "outputs") refl in
      let inner = same (codes "steps") refl in
      let asks = asked around in
      let own = same (codes "id") refl in
      let tool = tools around in
      λ i.
      if bytes_eq (unwrap_or (option_and_then as_str (class i)) []) (codes "Workflow")
      then process.Workflow (roll-Workflow (record {
        inputs = option_map_or (λ v. map (λ e. (e.0, workflow_input_in e.1)) (entries kind.WorkflowInput v)) (inputs i) [];
        outputs = option_map_or (λ v. map (λ e. (e.0, workflow_output_in (unwrap_or (option_and_then as_str (own i)) []) e.1)) (entries kind.WorkflowOutput v)) (outputs i) [];
        steps = option_map_or (λ v. map (λ e. (e.0, step_in (process_in levels) (unwrap_or (option_and_then as_str (own i)) []) (asks i) e.1)) (entries kind.Step v)) (inner i) [];
      }))
      else process.Tool (tool i)
