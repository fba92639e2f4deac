use Rattle.cwl_value.proofs.Told as told
use Rattle.cwl_value.proofs.laws.json_tells_values_apart.Goals as goal

pub returns : goal.returns
returns c = told.json_tells_values_apart
