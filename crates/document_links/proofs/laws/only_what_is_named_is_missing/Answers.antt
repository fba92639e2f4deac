use Rattle.document_links.proofs.Missing.{lacks, not_loaded}
use Rattle.document_links.proofs.laws.only_what_is_named_is_missing.Goals as goal

pub returns-clause-walked : goal.returns-clause-walked
returns-clause-walked c = not_loaded

pub returns-clause-read : goal.returns-clause-read
returns-clause-read c = lacks
