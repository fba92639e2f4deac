use Rattle.cwl_process.proofs.Forms.{none_differ}
use Rattle.cwl_process.proofs.from_entry.entries_at.Goals as goal

pub from_distinct-requires : goal.from_distinct-requires
from_distinct-requires g c = none_differ _ c.new.ensures.items
