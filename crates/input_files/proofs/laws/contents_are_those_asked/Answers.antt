use Rattle.std.proofs.Common.{refl}
use Rattle.input_files.proofs.Asked.{those_asked, unasked}
use Rattle.input_files.proofs.laws.contents_are_those_asked.Goals as goal

pub returns : goal.returns
returns c = record { loaded = those_asked; unasked = unasked; limit = refl }
