use Rattle.document_links.proofs.Bounding.{only_bounds}
use Rattle.document_links.proofs.laws.only_bounds_refuse_a_process.Goals as goal

pub returns : goal.returns
returns c = only_bounds
