use Rattle.cwl_process.proofs.Ignored as ignored
use Rattle.cwl_process.proofs.laws.descriptions_are_not_read.Goals as goal

pub returns : goal.returns
returns c = record {
  processes = λ levels around name d ms over. ignored.processes name d ms over levels around;
  steps = λ inner id around name d ms over. ignored.steps name d ms over inner id around;
  tool_inputs = ignored.tool_inputs;
  tool_outputs = ignored.tool_outputs;
  workflow_inputs = ignored.workflow_inputs;
  workflow_outputs = λ id name d ms over. ignored.workflow_outputs name d ms over id;
  step_inputs = λ id name d ms over. ignored.step_inputs name d ms over id;
  bindings = ignored.bindings;
}
