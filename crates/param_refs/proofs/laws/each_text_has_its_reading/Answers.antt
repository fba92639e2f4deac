use Rattle.param_refs.proofs.Parses.{parsed-is}
use Rattle.param_refs.proofs.laws.each_text_has_its_reading.Goals as goal

pub returns : goal.returns
returns c = parsed-is
