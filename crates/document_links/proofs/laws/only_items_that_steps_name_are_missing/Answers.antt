use Rattle.document_links.proofs.Absent.{lacks_item, no_item}
use Rattle.document_links.proofs.laws.only_items_that_steps_name_are_missing.Goals as goal

pub returns-clause-walked : goal.returns-clause-walked
returns-clause-walked c = no_item

pub returns-clause-read : goal.returns-clause-read
returns-clause-read c = lacks_item
