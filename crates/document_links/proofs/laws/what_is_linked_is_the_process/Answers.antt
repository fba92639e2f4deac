use Rattle.document_links.proofs.Related.{linked_is_process, within_bounds}
use Rattle.document_links.proofs.laws.what_is_linked_is_the_process.Goals as goal

pub returns-clause-walked : goal.returns-clause-walked
returns-clause-walked c = within_bounds

pub returns-clause-read : goal.returns-clause-read
returns-clause-read c = linked_is_process
