use Rattle.cwl_value.proofs.Whole as told
use Rattle.cwl_value.proofs.laws.texts_tell_values_apart.Goals as goal

pub returns : goal.returns
returns c = told.texts_tell_values_apart
