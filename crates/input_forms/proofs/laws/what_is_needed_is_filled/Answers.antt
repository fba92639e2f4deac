use Rattle.input_forms.proofs.Needed.{needed_is_filled}
use Rattle.input_forms.proofs.laws.what_is_needed_is_filled.Goals as goal

pub returns : goal.returns
returns c = needed_is_filled
