-- Which processes can leave files: those with an output whose type has a File or Directory, or a value that holds one.
use Rattle.std.specs.Prelude.{ℕ, Bool, true, false, List, map}
use Rattle.std.specs.List.{list_any}
use Rattle.cwl_value.specs.Fileless.{some_true}
use Rattle.cwl_types.specs.declared.types.PlainType.{PlainType}
use Rattle.cwl_types.specs.declared.types.PlainType.TheVariants as plain
use Rattle.cwl_types.specs.declared.types.MemberType.{MemberType, fold-MemberType}
use Rattle.cwl_types.specs.declared.types.MemberType.TheOpen.{MemberType-F, ArrayType-F}
use Rattle.cwl_process.specs.declared.tool.ToolOutput.{ToolOutput}
use Rattle.cwl_process.specs.declared.workflow.WorkflowOutput.{WorkflowOutput}
use Rattle.cwl_process.specs.declared.tool.OutputType.{OutputType}
use Rattle.cwl_process.specs.declared.tool.OutputType.TheVariants.{Stdout, Stderr, Members}
use Rattle.document_links.specs.declared.process.Process.{Process, out-Process}
use Rattle.document_links.specs.declared.process.Process.TheOpen.{Process-F}
use Rattle.document_links.specs.declared.process.Step.{Step}
use Rattle.document_links.specs.declared.process.Workflow.{Workflow, out-Workflow}

-- of the types by their names File and Directory, and Any, which has all values but null
abbrev pub is_file : PlainType → Bool
is_file plain.File = true
is_file plain.Directory = true
is_file plain.Any = true
is_file _ = false

abbrev pub holds_at : MemberType-F Bool Bool → Bool
holds_at (MemberType-F.Plain kind) = is_file kind
holds_at (MemberType-F.Array holds) = holds
holds_at (MemberType-F.Enum symbols) = false

abbrev pub items_hold : ArrayType-F Bool Bool → Bool
items_hold array = some_true array.items

-- a member of a type: one of those, or an array of them at any depth
abbrev pub holds : MemberType → Bool
holds = fold-MemberType Bool Bool holds_at items_hold

abbrev pub some_hold : List MemberType → Bool
some_hold members = some_true (map holds members)

-- the two streams are files
abbrev pub output_holds : OutputType → Bool
output_holds Stdout = true
output_holds Stderr = true
output_holds (Members members) = some_hold members

abbrev pub tool_holds : List (List ℕ × ToolOutput) → Bool
tool_holds outputs = list_any (λ e. output_holds e.1.kind) outputs

abbrev pub workflow_holds : List (List ℕ × WorkflowOutput) → Bool
workflow_holds outputs = list_any (λ e. some_hold e.1.kind) outputs

abbrev pub holds_in : Process-F Process Step Workflow → Bool
holds_in (Process-F.Tool tool) = tool_holds tool.outputs
holds_in (Process-F.Workflow workflow) = workflow_holds (out-Workflow workflow).outputs

abbrev pub can_hold_files : Process → Bool
can_hold_files process = holds_in (out-Process process)
