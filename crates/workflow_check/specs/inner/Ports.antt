-- For private clauses: what indexes of a process stand for.
use Rattle.std.specs.Prelude.{◌≡◌, ℕ, List}
use Rattle.plain_data.specs.ByName.{map_values}
use Rattle.cwl_types.specs.declared.types.MemberType.{MemberType}
use Rattle.document_links.specs.declared.process.Step.{Step, out-Step}
use Rattle.workflow_check.specs.Scope.{Asked, Named, gives, output_kind, tool_asked, workflow_asked}
use Rattle.workflow_check.specs.declared.scope.Inputs.{Inputs}
use Rattle.workflow_check.specs.declared.scope.Inputs.TheVariants as inputs
use Rattle.workflow_check.specs.declared.scope.Outputs.{Outputs}
use Rattle.workflow_check.specs.declared.scope.Outputs.TheVariants as outputs

abbrev pub taken_under : Inputs → Named Asked
taken_under (inputs.Tool entries) = map_values tool_asked entries
taken_under (inputs.Workflow entries) = map_values workflow_asked entries

abbrev pub given_under : Outputs → Named (List MemberType)
given_under (outputs.Tool entries) = map_values (λ o. output_kind o.kind) entries
given_under (outputs.Workflow entries) = map_values (λ o. o.kind) entries

-- the outputs that the step lists, and what its process gives
pub record IsOutputsOf (listed : List (List ℕ)) (given : Outputs) (step : Step) : Type 0 where
  pub lists : listed ≡ (out-Step step).outputs
  pub gives : given_under given ≡ gives (out-Step step).process
