use Rattle.document_links.proofs.Alone.{no_document, no_item}
use Rattle.document_links.proofs.laws.nothing_is_missing_for_needed_documents.Goals as goal

pub returns-clause-document : goal.returns-clause-document
returns-clause-document c = no_document

pub returns-clause-item : goal.returns-clause-item
returns-clause-item c = no_item
