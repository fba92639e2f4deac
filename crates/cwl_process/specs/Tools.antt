-- The tool that an object represents (CWL v1.2, Command Line Tool Description, "CommandLineTool").
use Rattle.std.specs.Prelude.{ℕ, List, [], map, codes}
use Rattle.std.specs.Option.{option_map_or}
use Rattle.serde_json.specs.Data.{Data, null, boolean, number, string, array, object}
use Rattle.serde_json.specs.Find.{get}
use Rattle.serde_json.specs.Written.{compact_text}
use Rattle.document_table.specs.Entries.{entries}
use Rattle.document_table.specs.Kept.{kept}
use Rattle.document_table.specs.declared.form.Form.TheVariants as form
use Rattle.document_table.specs.declared.form.Kind.{Kind}
use Rattle.document_table.specs.declared.form.Kind.TheVariants as kind
use Rattle.cwl_process.specs.Acting.{asked_in}
use Rattle.cwl_process.specs.Bindings.{bindings_at}
use Rattle.cwl_process.specs.Parameters.{tool_input_in, tool_output_in}
use Rattle.cwl_process.specs.Simple.{ints_at, texts_at}
use Rattle.cwl_process.specs.Templates.{template_at}
use Rattle.cwl_process.specs.declared.tool.Asked.{Asked}
use Rattle.cwl_process.specs.declared.tool.ExitCodes.{ExitCodes}
use Rattle.cwl_process.specs.declared.tool.Streams.{Streams}
use Rattle.cwl_process.specs.declared.tool.Tool.{Tool}

-- what is in a field's list or map of objects, each read by f
abbrev pub entries_at : {T : Type 0} → Kind → (Data → T) → List ℕ → Data → List (List ℕ × T)
entries_at kind f name d = option_map_or (λ v. map (λ e. (e.0, f e.1)) (entries kind v)) (get name d) []

abbrev pub streams_in : Data → Streams
streams_in d = record { stdin = template_at (codes "stdin") d; stdout = template_at (codes "stdout") d; stderr = template_at (codes "stderr") d }

abbrev pub exit_codes_in : Data → ExitCodes
exit_codes_in d = record {
  success = ints_at (codes "successCodes") d;
  temporary = ints_at (codes "temporaryFailCodes") d;
  permanent = ints_at (codes "permanentFailCodes") d;
}

-- what tells the tool from another, beside its environment: its object without hints and what is read over (own)
abbrev pub written_in : Data → List ℕ
written_in null = []
written_in (boolean b) = []
written_in (number n) = []
written_in (string s) = []
written_in (array ds) = []
written_in (object ms) = compact_text (kept (form.Object kind.Tool) (object ms))

-- the tool, inside of what is asked around it
abbrev pub tool_in : Asked → Data → Tool
tool_in around d = record {
  base_command = texts_at (codes "baseCommand") d;
  arguments = bindings_at (codes "arguments") d;
  inputs = entries_at kind.ToolInput tool_input_in (codes "inputs") d;
  outputs = entries_at kind.ToolOutput tool_output_in (codes "outputs") d;
  streams = streams_in d;
  exit_codes = exit_codes_in d;
  asked = asked_in around d;
  written = written_in d;
}
