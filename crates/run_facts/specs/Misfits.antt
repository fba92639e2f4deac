-- The first input of a process whose value is not of its type. The value is the one that is given, or the default in place of null
-- (CWL v1.2, Command Line Tool and Workflow Description, "default").
use Rattle.std.specs.Prelude.{ℕ, Bool, List, [], ◌∷◌, Option, Some, None, if◌then◌else◌}
use Rattle.cwl_process.specs.declared.tool.ToolInput.{ToolInput}
use Rattle.cwl_process.specs.declared.workflow.WorkflowInput.{WorkflowInput}
use Rattle.document_links.specs.declared.process.Process.{Process, out-Process}
use Rattle.document_links.specs.declared.process.Process.TheOpen.{Process-F}
use Rattle.document_links.specs.declared.process.Step.{Step}
use Rattle.document_links.specs.declared.process.Workflow.{Workflow, out-Workflow}
use Rattle.input_files.specs.Given.{Fields, fits_input, input_value, or_default, value_under}
use Rattle.type_check.specs.Fits.{fits}

abbrev pub fits_tool : (given : Fields) → List ℕ × ToolInput → Bool
fits_tool given e = fits_input e.1.kind (input_value given e)

abbrev pub first_of_tool : (given : Fields) → List (List ℕ × ToolInput) → Option (List ℕ)
first_of_tool given [] = None
first_of_tool given (e ∷ inputs) = if fits_tool given e then first_of_tool given inputs else Some e.0

unfoldable pub fits_workflow : (given : Fields) → List ℕ × WorkflowInput → Bool
fits_workflow given e = fits e.1.kind (or_default e.1.default (value_under e.0 given))

abbrev pub first_of_workflow : (given : Fields) → List (List ℕ × WorkflowInput) → Option (List ℕ)
first_of_workflow given [] = None
first_of_workflow given (e ∷ inputs) = if fits_workflow given e then first_of_workflow given inputs else Some e.0

abbrev pub first_in : (given : Fields) → Process-F Process Step Workflow → Option (List ℕ)
first_in given (Process-F.Tool tool) = first_of_tool given tool.inputs
first_in given (Process-F.Workflow workflow) = first_of_workflow given (out-Workflow workflow).inputs

abbrev pub first_misfit : Process → (given : Fields) → Option (List ℕ)
first_misfit process given = first_in given (out-Process process)
