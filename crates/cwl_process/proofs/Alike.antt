-- Objects with the same values at the fields that are read are read alike.
use Rattle.std.proofs.Common.{◌≡◌, ℕ, List, [], map, Bool, true, false, Option, None, codes}
use Rattle.std.specs.Prelude.{pos, ◌||◌, ◌&&◌, not, nat_eq, option_map, option_and_then, unwrap_or}
use Rattle.std.specs.List.{ends_with}
use Rattle.std.specs.Option.{option_map_or}
use Rattle.serde_json.specs.Data.{Data, Members, object}
use Rattle.serde_json.specs.Find.{as_bool, as_str, get_member}
use Rattle.cwl_value.specs.Reading.{reading}
use Rattle.cwl_types.specs.Types.{type_in}
use Rattle.document_table.specs.Entries.{entries}
use Rattle.document_table.specs.declared.form.Kind.TheVariants as kind
use Rattle.cwl_process.specs.Acting.{asked_in, inside, last_of, variable_in, variables_in}
use Rattle.cwl_process.specs.Bindings.{binding_in, secondary_in}
use Rattle.cwl_process.specs.Links.{merge_named, pick_named, source_in}
use Rattle.cwl_process.specs.Parameters.{if_read, input_type_in, output_binding_in, output_type_in, tool_input_in, tool_output_in, workflow_input_in, workflow_output_in}
use Rattle.cwl_process.specs.Processes.{step_in}
use Rattle.cwl_process.specs.Simple.{flag_at, int_in, name_in, one_or_more, text_in}
use Rattle.cwl_process.specs.Templates.{template_of, template_in}
use Rattle.cwl_process.specs.Workflows.{method_named, run_in, step_input_in, step_output_in}
use Rattle.cwl_process.specs.declared.process.Process.{Process}
use Rattle.cwl_process.specs.declared.process.Run as run
use Rattle.cwl_process.specs.declared.tool.Acting.{Acting}
use Rattle.cwl_process.specs.declared.tool.Asked.{Asked}
use Rattle.cwl_process.specs.declared.tool.InputType.TheVariants as input
use Rattle.cwl_process.specs.declared.tool.OutputType.TheVariants as output
use Rattle.cwl_process.specs.declared.workflow.Step.{roll-Step}

module _ (ms ns : Members) where
  -- the field has one value in both
  abbrev pub Same : List ℕ → Type 0
  Same name = get_member name ns ≡ get_member name ms

  pub binding_same : Same (codes "position") → Same (codes "prefix") → Same (codes "separate") → Same (codes "itemSeparator") → Same (codes "valueFrom")
      → binding_in (object ns) ≡ binding_in (object ms)
  binding_same position prefix separate separator value = λ i. record {
    position = option_map_or int_in (position i) (pos 0);
    prefix = option_and_then as_str (prefix i);
    separate = unwrap_or (option_and_then as_bool (separate i)) true;
    item_separator = option_and_then as_str (separator i);
    value_from = option_map template_of (option_and_then as_str (value i));
  }

  pub secondary_same : (absent : Bool) → Same (codes "pattern") → Same (codes "required") → secondary_in absent (object ns) ≡ secondary_in absent (object ms)
  secondary_same absent pattern required = λ i. record {
    pattern = option_map_or text_in (pattern i) (codes "");
    required = not (ends_with nat_eq (option_map_or text_in (pattern i) (codes "")) (codes "?")) && unwrap_or (option_and_then as_bool (required i)) absent;
  }

  pub tool_input_same : Same (codes "type") → Same (codes "default") → Same (codes "inputBinding") → Same (codes "loadContents") → Same (codes "secondaryFiles")
      → tool_input_in (object ns) ≡ tool_input_in (object ms)
  tool_input_same type default binding loads secondary = λ i. record {
    kind = option_map_or input_type_in (type i) (input.Members []);
    default = option_and_then (λ v. if_read (reading v)) (default i);
    binding = option_map binding_in (binding i);
    load_contents = unwrap_or (option_and_then as_bool (loads i)) false || option_map_or (flag_at (codes "loadContents") false) (binding i) false;
    secondary_files = map (secondary_in true) (option_map_or one_or_more (secondary i) []);
  }

  pub tool_output_same : Same (codes "type") → Same (codes "outputBinding") → Same (codes "secondaryFiles") → tool_output_in (object ns) ≡ tool_output_in (object ms)
  tool_output_same type binding secondary = λ i. record {
    kind = option_map_or output_type_in (type i) (output.Members []);
    binding = option_map output_binding_in (binding i);
    secondary_files = map (secondary_in false) (option_map_or one_or_more (secondary i) []);
  }

  pub output_binding_same : Same (codes "glob") → Same (codes "loadContents") → Same (codes "outputEval") → output_binding_in (object ns) ≡ output_binding_in (object ms)
  output_binding_same glob loads eval = λ i. record {
    glob = option_map (λ _. map template_in (option_map_or one_or_more (glob i) [])) (glob i);
    load_contents = unwrap_or (option_and_then as_bool (loads i)) false;
    output_eval = option_map template_of (option_and_then as_str (eval i));
  }

  pub workflow_input_same : Same (codes "type") → Same (codes "default") → Same (codes "secondaryFiles") → workflow_input_in (object ns) ≡ workflow_input_in (object ms)
  workflow_input_same type default secondary = λ i. record {
    kind = option_map_or type_in (type i) [];
    default = option_and_then (λ v. if_read (reading v)) (default i);
    secondary_files = map (secondary_in true) (option_map_or one_or_more (secondary i) []);
  }

  pub workflow_output_same : (id : List ℕ) → Same (codes "type") → Same (codes "outputSource") → Same (codes "linkMerge") → Same (codes "pickValue") → workflow_output_in id (object ns) ≡ workflow_output_in id (object ms)
  workflow_output_same id type source merge pick = λ i. record {
    kind = option_map_or type_in (type i) [];
    links = record {
      sources = option_map (λ v. map (source_in id) (one_or_more v)) (source i);
      merge = option_and_then merge_named (option_and_then as_str (merge i));
      pick = option_and_then pick_named (option_and_then as_str (pick i));
    };
  }

  pub step_input_same : (id : List ℕ) → Same (codes "source") → Same (codes "linkMerge") → Same (codes "pickValue") → Same (codes "default") → Same (codes "valueFrom")
      → step_input_in id (object ns) ≡ step_input_in id (object ms)
  step_input_same id source merge pick default value = λ i. record {
    links = record {
      sources = option_map (λ v. map (source_in id) (one_or_more v)) (source i);
      merge = option_and_then merge_named (option_and_then as_str (merge i));
      pick = option_and_then pick_named (option_and_then as_str (pick i));
    };
    default = option_and_then (λ v. if_read (reading v)) (default i);
    value_from = option_map template_of (option_and_then as_str (value i));
  }

  -- what acts of the requirements that a field has
  abbrev pub acting_of : Option Data → Acting
  acting_of o = record {
    environment = option_map variables_in (option_and_then (λ v. last_of (codes "EnvVarRequirement") None (entries kind.PlainRequirement v)) o);
    reuse = option_map (flag_at (codes "enableReuse") true) (option_and_then (λ v. last_of (codes "WorkReuse") None (entries kind.PlainRequirement v)) o);
  }

  pub asked_same : (around : Asked) → Same (codes "requirements") → Same (codes "hints") → asked_in around (object ns) ≡ asked_in around (object ms)
  asked_same around requirements hints = λ i. record {
    requirements = inside around.requirements (acting_of (requirements i));
    hints = inside around.hints (acting_of (hints i));
  }

  pub variable_same : Same (codes "envValue") → variable_in (object ns) ≡ variable_in (object ms)
  variable_same value = λ i. record { written = option_map_or text_in (value i) []; value = template_of (option_map_or text_in (value i) []) }

  pub step_same : (inner : Asked → Data → Process) (id : List ℕ) (around : Asked) → Same (codes "in") → Same (codes "out") → Same (codes "run") → Same (codes "scatter")
      → Same (codes "scatterMethod") → Same (codes "when") → Same (codes "requirements") → Same (codes "hints")
      → step_in inner id around (object ns) ≡ step_in inner id around (object ms)
  step_same inner id around inputs outputs runs scatter method when requirements hints =
      let asks = asked_same around requirements hints in
      λ i. roll-Step (record {
        inputs = option_map_or (λ v. map (λ e. (e.0, step_input_in id e.1)) (entries kind.StepInput v)) (inputs i) [];
        outputs = map step_output_in (option_map_or one_or_more (outputs i) []);
        run = option_map_or (run_in (inner (asks i)) (asks i)) (runs i) (run.Named (record { name = []; asked = asks i }));
        scatter = map name_in (option_map_or one_or_more (scatter i) []);
        method = option_and_then method_named (option_and_then as_str (method i));
        when = option_map template_of (option_and_then as_str (when i));
      })
