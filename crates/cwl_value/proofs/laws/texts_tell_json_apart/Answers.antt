use Rattle.cwl_value.proofs.Texts as texts
use Rattle.cwl_value.proofs.laws.texts_tell_json_apart.Goals as goal

pub returns : goal.returns
returns c = texts.texts_tell_json_apart
