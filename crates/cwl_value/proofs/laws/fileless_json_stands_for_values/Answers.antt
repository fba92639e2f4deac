use Rattle.cwl_value.proofs.WithoutFiles.{fileless_read}
use Rattle.cwl_value.proofs.laws.fileless_json_stands_for_values.Goals as goal

pub returns : goal.returns
returns c = fileless_read
