-- Whether a value is one that outputs declare. No public contract cites this.
use Rattle.std.specs.Prelude.{Bool, ◌&&◌, List, bytes_eq}
use Rattle.std.specs.List.{list_any}
use Rattle.cwl_process.specs.declared.tool.ToolOutput.{ToolOutput}
use Rattle.cwl_value.specs.declared.value.Value.{Value}
use Rattle.collected_outputs.specs.Checked.{is_typed}
use Rattle.collected_outputs.specs.Matched.{Name}

abbrev pub is_output : Name × Value → Name × ToolOutput → Bool
is_output value output = bytes_eq output.0 value.0 && is_typed output.1.kind value.1

abbrev pub is_declared : List (Name × ToolOutput) → Name × Value → Bool
is_declared outputs value = list_any (is_output value) outputs
