use Rattle.document_links.proofs.Needing.{empty_bounded, needing}
use Rattle.document_links.proofs.laws.what_is_linked_needs_documents.Goals as goal

pub returns-clause-walked : goal.returns-clause-walked
returns-clause-walked c = empty_bounded

pub returns-clause-read : goal.returns-clause-read
returns-clause-read c = needing
