use Rattle.document_table.proofs.Described as proved
use Rattle.document_table.proofs.laws.descriptions_decide_nothing.Goals as goal

pub returns : goal.returns
returns c = proved.descriptions_decide_nothing
