use Rattle.param_refs.proofs.Kept.{plain_kept}
use Rattle.param_refs.proofs.laws.plain_texts_are_kept.Goals as goal

pub returns : goal.returns
returns c = plain_kept
