use Rattle.cwl_process.proofs.Forms.{none_differ}
use Rattle.document_links.proofs.defaults.tool_on.Goals as goal

pub from_distinct-requires : goal.from_distinct-requires
from_distinct-requires c = none_differ _ c.new.ensures.items
