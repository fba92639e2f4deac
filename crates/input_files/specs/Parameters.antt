-- What the inputs of tools and those of workflows have in common (CWL v1.2, Command Line Tool, "CommandInputParameter"; Workflow,
-- "WorkflowInputParameter": `default`, `type`, `secondaryFiles`).
use Rattle.std.specs.Prelude.{Bool, true, false, List, Option}
use Rattle.cwl_process.specs.declared.tool.SecondaryFile.{SecondaryFile}
use Rattle.cwl_process.specs.declared.tool.ToolInput.{ToolInput}
use Rattle.cwl_process.specs.declared.workflow.WorkflowInput.{WorkflowInput}
use Rattle.cwl_value.specs.declared.value.Value.{Value}
use Rattle.type_check.specs.Fits.{fits}
use Rattle.input_files.specs.Given.{fits_input}

pub record Parameter : Type 0 where
  -- the value in place of null
  pub default : Option Value
  -- whether a value is of its type
  pub takes : Value → Bool
  pub secondary_files : List SecondaryFile
  -- whether its Files have to be there: a tool uses them, and a workflow hands them on
  pub uses_files : Bool

abbrev pub tool_parameter : ToolInput → Parameter
tool_parameter input = record { default = input.default; takes = fits_input input.kind; secondary_files = input.secondary_files; uses_files = true }

abbrev pub workflow_parameter : WorkflowInput → Parameter
workflow_parameter input = record { default = input.default; takes = fits input.kind; secondary_files = input.secondary_files; uses_files = false }
