use Rattle.std.proofs.Common.{true, false}
use Rattle.cwl_process.proofs.Defaults as defaults
use Rattle.cwl_process.proofs.laws.fields_left_out_have_their_defaults.Goals as goal

pub returns : goal.returns
returns c = record {
  position = defaults.position;
  separate = defaults.separate;
  contents = defaults.contents_of_inputs;
  output_contents = defaults.contents_of_outputs;
  required = defaults.required true;
  not_required = defaults.required false;
}
