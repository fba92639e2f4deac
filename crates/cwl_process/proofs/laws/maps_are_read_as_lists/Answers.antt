use Rattle.cwl_process.proofs.ReadMaps as maps
use Rattle.cwl_process.proofs.laws.maps_are_read_as_lists.Goals as goal

pub returns : goal.returns
returns c = record {
  tool_inputs = maps.tool_inputs_alike;
  tool_outputs = maps.tool_outputs_alike;
  workflow_inputs = maps.workflow_inputs_alike;
  workflow_outputs = maps.workflow_outputs_alike;
  steps = maps.steps_alike;
  step_inputs = maps.step_inputs_alike;
  variables = maps.variables_alike;
}
