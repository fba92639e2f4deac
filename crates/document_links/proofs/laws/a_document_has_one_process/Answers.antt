use Rattle.document_links.proofs.OneProcess.{one_process}
use Rattle.document_links.proofs.laws.a_document_has_one_process.Goals as goal

pub returns : goal.returns
returns c = one_process
